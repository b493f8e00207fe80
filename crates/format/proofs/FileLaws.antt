-- A file that is made of ordinary rows under the four headers: its kept lines and its groups. Assumes nothing.
use mathlib.Core.Path.{◌≡◌, refl, sym, ◌∙◌, ap, subst}
use mathlib.Core.Bool.{Bool, true, false, ◌&&◌}
use mathlib.Core.List.{List, [], ◌∷◌, ◌++◌, append_assoc, append-nil, flat_map}
use Prim.Native.Nat.{ℕ, suc}
use native.Mathlib.Omega.{arith}
use lib.Dec.{leb}
use borrow.Author.Tests.{leb-true}
use Rattle.format.specs.Basics.{given, keep, ascii, begins_with, is_empty, eqs, every, All}
use Rattle.format.specs.Tokens.{parts_at}
use Rattle.format.specs.Utf8.{is_utf8, open-Utf8}
use Rattle.format.specs.TextWriter.{text_line}
use Rattle.format.specs.TextReader.{kept_lines, after_magic}
use Rattle.format.proofs.TextLaws.{OneLine}
use Rattle.format.proofs.ListLaws.{all-parts, all-every, all_append, all_map, flat_map-append}
use Rattle.format.proofs.ListFacts.{and_left, and_right, keep_append, keep_all, parts_body, parts_all, parts-head}
use Rattle.format.proofs.Utf8Laws.{Text, text-append, text-ascii, text_utf8}
use Rattle.format.proofs.TrimLaws.{Visible, newlines_of}
use Rattle.format.proofs.EscapeLaws.{Printable}
use Rattle.format.proofs.LineLaws.{kept_file, printable_line, is_kept}
use Rattle.format.proofs.RowLaws.{Ordinary, printable_text}

-- the last line ends with a visible byte, and k newlines follow its own
pub kept_whole :
    (a : ℕ) (l : List ℕ) (rest before : List (List ℕ)) (xs : List ℕ) (b k : ℕ) → rest ≡ before ++ (xs ++ b ∷ []) ∷ [] → Visible a → Visible b → All OneLine ((a ∷ l) ∷ rest)
    → kept_lines (flat_map text_line ((a ∷ l) ∷ rest) ++ newlines_of k) ≡ keep is_kept ((a ∷ l) ∷ rest)
unfolding flat_map
kept_whole a l rest before xs b k e va vb o =
    let o' : All OneLine (((a ∷ l) ∷ before) ++ (xs ++ b ∷ []) ∷ []) = subst (λ (r : List (List ℕ)). All OneLine ((a ∷ l) ∷ r)) e o in
    let f = all-parts OneLine ((a ∷ l) ∷ before) ((xs ++ b ∷ []) ∷ []) o' in
    let w : flat_map text_line ((a ∷ l) ∷ before ++ (xs ++ b ∷ []) ∷ []) ++ newlines_of k ≡ flat_map text_line ((a ∷ l) ∷ before) ++ (xs ++ b ∷ newlines_of (suc k)) =
    ap (λ (r : List ℕ). r ++ newlines_of k) (flat_map-append text_line ((a ∷ l) ∷ before) ((xs ++ b ∷ []) ∷ []))
    ∙ append_assoc (flat_map text_line ((a ∷ l) ∷ before)) (xs ++ b ∷ [] ++ 0x0A ∷ [] ++ []) (newlines_of k)
    ∙ ap (λ (r : List ℕ). flat_map text_line ((a ∷ l) ∷ before) ++ r)
    (ap (λ (r : List ℕ). r ++ newlines_of k) (append-nil (xs ++ b ∷ [] ++ 0x0A ∷ [])) ∙ append_assoc (xs ++ b ∷ []) (0x0A ∷ []) (newlines_of k) ∙ append_assoc xs (b ∷ []) (0x0A ∷ newlines_of k)) in
    ap (λ (r : List (List ℕ)). kept_lines (flat_map text_line ((a ∷ l) ∷ r) ++ newlines_of k)) e ∙ ap kept_lines w ∙ kept_file a l before xs b (suc k) va vb f.0 f.1.0
    ∙ ap (λ (r : List (List ℕ)). keep is_kept ((a ∷ l) ∷ r)) (sym e)

pub text-lines : (ls : List (List ℕ)) → All Text ls → Text (flat_map text_line ls)
unfolding flat_map
text-lines [] h = text-ascii [] tt
text-lines (l ∷ ls) h = text-append (text_line l) (flat_map text_line ls) (text-append l (0x0A ∷ []) h.0 (text-ascii (0x0A ∷ []) (omega arith, tt))) (text-lines ls h.1)

-- the fixed lines
abbrev pub title : List ℕ
title = ascii "LC-3 OBJ FILE"

abbrev pub comment : List ℕ
comment = ascii "# DEBUG SYMBOLS FOR LC3TOOLS"

abbrev pub bar_line : List ℕ
bar_line = ascii "===================="

-- what a fixed line is good for
abbrev Fixed : List ℕ → Type 0
Fixed l = OneLine l × Text l

blank_fixed : Fixed []
blank_fixed = (tt, text-ascii [] tt)

abbrev is_printable : ℕ → Bool
is_printable b = leb 0x20 b && leb b 0x7E

pub printable_by : (t : List ℕ) → every is_printable t ≡ true → All Printable t
printable_by t h =
    all_map (λ b e. (leb-true 0x20 b (and_left (leb 0x20 b) (leb b 0x7E) e), omega (arith, leb-true b 0x7E (and_right (leb 0x20 b) (leb b 0x7E) e)))) t (all-every is_printable t h)

title_printable : All Printable title
unfolding ascii every
title_printable = printable_by title refl

text_printable : All Printable (ascii ".TEXT")
unfolding ascii every
text_printable = printable_by (ascii ".TEXT") refl

symbol_printable : All Printable (ascii ".SYMBOL")
unfolding ascii every
symbol_printable = printable_by (ascii ".SYMBOL") refl

linker_printable : All Printable (ascii ".LINKER_INFO")
unfolding ascii every
linker_printable = printable_by (ascii ".LINKER_INFO") refl

debug_printable : All Printable (ascii ".DEBUG")
unfolding ascii every
debug_printable = printable_by (ascii ".DEBUG") refl

comment_printable : All Printable comment
unfolding ascii every
comment_printable = printable_by comment refl

bar_printable : All Printable bar_line
unfolding ascii every
bar_printable = printable_by bar_line refl

ordinary_fixed : (xs : List (List ℕ)) → All Ordinary xs → All Fixed xs
ordinary_fixed xs h = all_map (λ l q. (q.0, q.1)) xs h

fixed : (t : List ℕ) → All Printable t → Fixed t
fixed t h = (printable_line t h, printable_text t h)

pub bar_ordinary : Ordinary bar_line
unfolding open-Utf8 is_empty ascii begins_with
bar_ordinary = (printable_line bar_line bar_printable, printable_text bar_line bar_printable, refl, refl)

yes-kept : (l : List ℕ) (ys zs : List (List ℕ)) → is_kept l ≡ true → keep is_kept ys ≡ zs → keep is_kept (l ∷ ys) ≡ l ∷ zs
unfolding keep
yes-kept l ys zs h e = rw (h, e)

not-kept : (l : List ℕ) (ys zs : List (List ℕ)) → is_kept l ≡ false → keep is_kept ys ≡ zs → keep is_kept (l ∷ ys) ≡ zs
unfolding keep
not-kept l ys zs h e = rw (h, e)

rows-kept : (xs ys zs : List (List ℕ)) → All Ordinary xs → keep is_kept ys ≡ zs → keep is_kept (xs ++ ys) ≡ xs ++ zs
rows-kept xs ys zs h e = keep_append is_kept xs ys ∙ rw (keep_all is_kept xs (all_map (λ l o. o.2) xs h), e)

kept_title : is_kept title ≡ true
unfolding open-Utf8 is_empty ascii begins_with
kept_title = refl

kept-text : is_kept (ascii ".TEXT") ≡ true
unfolding open-Utf8 is_empty ascii begins_with
kept-text = refl

kept-symbol : is_kept (ascii ".SYMBOL") ≡ true
unfolding open-Utf8 is_empty ascii begins_with
kept-symbol = refl

kept-linker : is_kept (ascii ".LINKER_INFO") ≡ true
unfolding open-Utf8 is_empty ascii begins_with
kept-linker = refl

kept_debug : is_kept (ascii ".DEBUG") ≡ true
unfolding open-Utf8 is_empty ascii begins_with
kept_debug = refl

dropped_comment : is_kept comment ≡ false
unfolding open-Utf8 is_empty ascii begins_with
dropped_comment = refl

dropped_blank : is_kept [] ≡ false
unfolding open-Utf8 is_empty ascii begins_with
dropped_blank = refl

abbrev pub is_header : List ℕ → Bool
is_header l = begins_with (ascii ".") l

abbrev PartsOf : List (List ℕ) → List (List ℕ × List (List ℕ)) → Type 0
PartsOf ls gs = parts_at is_header ls ≡ record { before = []; groups = gs }

group_step :
    (head : List ℕ) (xs ys : List (List ℕ)) (gs : List (List ℕ × List (List ℕ))) → is_header head ≡ true → All Ordinary xs → PartsOf ys gs → PartsOf (head ∷ (xs ++ ys)) ((head, xs) ∷ gs)
group_step head xs ys gs h o p =
    parts-head is_header head (xs ++ ys) h ∙ rw (parts_body is_header xs ys (all_map (λ l q. q.3) xs o), p, append-nil xs)

group_last : (head : List ℕ) (xs : List (List ℕ)) → is_header head ≡ true → All Ordinary xs → PartsOf (head ∷ xs) ((head, xs) ∷ [])
group_last head xs h o = parts-head is_header head xs h ∙ rw (parts_all is_header xs (all_map (λ l q. q.3) xs o))

body_title : (ls : List (List ℕ)) → after_magic (title ∷ ls) ≡ given ls
unfolding after_magic eqs ascii
body_title ls = refl

ends_bar : bar_line ≡ ascii "===================" ++ 0x3D ∷ []
unfolding ascii
ends_bar = refl

head-text : is_header (ascii ".TEXT") ≡ true
unfolding ascii begins_with
head-text = refl

head-symbol : is_header (ascii ".SYMBOL") ≡ true
unfolding ascii begins_with
head-symbol = refl

head-linker : is_header (ascii ".LINKER_INFO") ≡ true
unfolding ascii begins_with
head-linker = refl

head_debug : is_header (ascii ".DEBUG") ≡ true
unfolding ascii begins_with
head_debug = refl

-- with symbols: rows of blocks, symbols, relocations, indices and lines
module _ (bl sy li ix ln : List (List ℕ)) where
  abbrev pub debug_rows : List (List ℕ)
  debug_rows = ix ++ (bar_line ∷ (ln ++ bar_line ∷ []))

  abbrev after_title : List (List ℕ)
  after_title =
      [] ∷ ascii ".TEXT" ∷ (bl ++ ([] ∷ ascii ".SYMBOL" ∷ (sy ++ ([] ∷ ascii ".LINKER_INFO" ∷ (li ++ ([] ∷ ascii ".DEBUG" ∷ comment ∷ [] ∷ debug_rows))))))

  abbrev pub full_file : List (List ℕ)
  full_file = title ∷ after_title

  abbrev pub full_body : List (List ℕ)
  full_body = ascii ".TEXT" ∷ (bl ++ (ascii ".SYMBOL" ∷ (sy ++ (ascii ".LINKER_INFO" ∷ (li ++ (ascii ".DEBUG" ∷ debug_rows))))))

  abbrev before_bar : List (List ℕ)
  before_bar =
      [] ∷ ascii ".TEXT" ∷ (bl ++ ([] ∷ ascii ".SYMBOL" ∷ (sy ++ ([] ∷ ascii ".LINKER_INFO" ∷ (li ++ ([] ∷ ascii ".DEBUG" ∷ comment ∷ [] ∷ (ix ++ (bar_line ∷ ln))))))))

  last_bar_lem : after_title ≡ before_bar ++ (ascii "===================" ++ 0x3D ∷ []) ∷ []
  last_bar_lem =
      let e : List (List ℕ) = bar_line ∷ [] in
      let p4 : ix ++ (bar_line ∷ ln) ++ e ≡ debug_rows = append_assoc ix (bar_line ∷ ln) e in
      let c : List (List ℕ) = [] ∷ ascii ".DEBUG" ∷ comment ∷ [] ∷ (ix ++ (bar_line ∷ ln)) in
      let p3 : li ++ c ++ e ≡ li ++ ([] ∷ ascii ".DEBUG" ∷ comment ∷ [] ∷ debug_rows) = append_assoc li c e ∙ ap (λ (r : List (List ℕ)). li ++ ([] ∷ ascii ".DEBUG" ∷ comment ∷ [] ∷ r)) p4 in
      let b : List (List ℕ) = [] ∷ ascii ".LINKER_INFO" ∷ (li ++ c) in
      let p2 : sy ++ b ++ e ≡ sy ++ ([] ∷ ascii ".LINKER_INFO" ∷ (li ++ ([] ∷ ascii ".DEBUG" ∷ comment ∷ [] ∷ debug_rows))) = append_assoc sy b e ∙ ap (λ (r : List (List ℕ)). sy ++ ([] ∷ ascii ".LINKER_INFO" ∷ r)) p3 in
      let a : List (List ℕ) = [] ∷ ascii ".SYMBOL" ∷ (sy ++ b) in
      let p1 : bl ++ a ++ e ≡ bl ++ ([] ∷ ascii ".SYMBOL" ∷ (sy ++ ([] ∷ ascii ".LINKER_INFO" ∷ (li ++ ([] ∷ ascii ".DEBUG" ∷ comment ∷ [] ∷ debug_rows))))) = append_assoc bl a e ∙ ap (λ (r : List (List ℕ)). bl ++ ([] ∷ ascii ".SYMBOL" ∷ r)) p2 in
      ap (λ (r : List (List ℕ)). [] ∷ ascii ".TEXT" ∷ r) (sym p1) ∙ ap (λ (r : List ℕ). before_bar ++ r ∷ []) ends_bar

  module _ (ob : All Ordinary bl) (os : All Ordinary sy) (ol : All Ordinary li) (oi : All Ordinary ix) (on : All Ordinary ln) where
    debug_ordinary : All Ordinary debug_rows
    debug_ordinary = all_append Ordinary ix (bar_line ∷ (ln ++ bar_line ∷ [])) oi (bar_ordinary, all_append Ordinary ln (bar_line ∷ []) on (bar_ordinary, tt))

    full_fixed : All Fixed full_file
    full_fixed = (
      fixed title title_printable,
      (
        blank_fixed,
        (
          fixed (ascii ".TEXT") text_printable,
          all_append Fixed bl ([] ∷ ascii ".SYMBOL" ∷ (sy ++ ([] ∷ ascii ".LINKER_INFO" ∷ (li ++ ([] ∷ ascii ".DEBUG" ∷ comment ∷ [] ∷ debug_rows))))) (ordinary_fixed bl ob) (
            blank_fixed,
            (
              fixed (ascii ".SYMBOL") symbol_printable,
              all_append Fixed sy ([] ∷ ascii ".LINKER_INFO" ∷ (li ++ ([] ∷ ascii ".DEBUG" ∷ comment ∷ [] ∷ debug_rows))) (ordinary_fixed sy os) (
                blank_fixed,
                (
                  fixed (ascii ".LINKER_INFO") linker_printable,
                  all_append Fixed li ([] ∷ ascii ".DEBUG" ∷ comment ∷ [] ∷ debug_rows) (ordinary_fixed li ol)
                      (blank_fixed, (fixed (ascii ".DEBUG") debug_printable, (fixed comment comment_printable, (blank_fixed, ordinary_fixed debug_rows debug_ordinary)))),
                ),
              ),
            ),
          ),
        ),
      ),
    )

    full-keep : keep is_kept full_file ≡ title ∷ full_body
    full-keep =
        let d3 = rows-kept debug_rows [] [] debug_ordinary (unfold keep in refl) in
        let d2 : keep is_kept debug_rows ≡ debug_rows = ap (keep is_kept) (sym (append-nil debug_rows)) ∙ d3 ∙ append-nil debug_rows in
        let d1 = not-kept [] (ascii ".DEBUG" ∷ comment ∷ [] ∷ debug_rows) (ascii ".DEBUG" ∷ debug_rows) dropped_blank
        (yes-kept (ascii ".DEBUG") (comment ∷ [] ∷ debug_rows) debug_rows kept_debug (not-kept comment ([] ∷ debug_rows) debug_rows dropped_comment (not-kept [] debug_rows debug_rows dropped_blank d2))) in
        let c1 = not-kept [] (ascii ".LINKER_INFO" ∷ (li ++ ([] ∷ ascii ".DEBUG" ∷ comment ∷ [] ∷ debug_rows))) (ascii ".LINKER_INFO" ∷ (li ++ (ascii ".DEBUG" ∷ debug_rows))) dropped_blank
        (yes-kept (ascii ".LINKER_INFO") (li ++ ([] ∷ ascii ".DEBUG" ∷ comment ∷ [] ∷ debug_rows)) (li ++ (ascii ".DEBUG" ∷ debug_rows)) kept-linker
        (rows-kept li ([] ∷ ascii ".DEBUG" ∷ comment ∷ [] ∷ debug_rows) (ascii ".DEBUG" ∷ debug_rows) ol d1)) in
        let b1 = not-kept [] (ascii ".SYMBOL" ∷ (sy ++ ([] ∷ ascii ".LINKER_INFO" ∷ (li ++ ([] ∷ ascii ".DEBUG" ∷ comment ∷ [] ∷ debug_rows)))))
        (ascii ".SYMBOL" ∷ (sy ++ (ascii ".LINKER_INFO" ∷ (li ++ (ascii ".DEBUG" ∷ debug_rows))))) dropped_blank
        (yes-kept (ascii ".SYMBOL") (sy ++ ([] ∷ ascii ".LINKER_INFO" ∷ (li ++ ([] ∷ ascii ".DEBUG" ∷ comment ∷ [] ∷ debug_rows)))) (sy ++ (ascii ".LINKER_INFO" ∷ (li ++ (ascii ".DEBUG" ∷ debug_rows)))) kept-symbol
        (rows-kept sy ([] ∷ ascii ".LINKER_INFO" ∷ (li ++ ([] ∷ ascii ".DEBUG" ∷ comment ∷ [] ∷ debug_rows))) (ascii ".LINKER_INFO" ∷ (li ++ (ascii ".DEBUG" ∷ debug_rows))) os c1)) in
        yes-kept title after_title full_body kept_title
        (not-kept [] (ascii ".TEXT" ∷ (bl ++ ([] ∷ ascii ".SYMBOL" ∷ (sy ++ ([] ∷ ascii ".LINKER_INFO" ∷ (li ++ ([] ∷ ascii ".DEBUG" ∷ comment ∷ [] ∷ debug_rows))))))) full_body dropped_blank
        (yes-kept (ascii ".TEXT") (bl ++ ([] ∷ ascii ".SYMBOL" ∷ (sy ++ ([] ∷ ascii ".LINKER_INFO" ∷ (li ++ ([] ∷ ascii ".DEBUG" ∷ comment ∷ [] ∷ debug_rows))))))
        (bl ++ (ascii ".SYMBOL" ∷ (sy ++ (ascii ".LINKER_INFO" ∷ (li ++ (ascii ".DEBUG" ∷ debug_rows)))))) kept-text
        (rows-kept bl ([] ∷ ascii ".SYMBOL" ∷ (sy ++ ([] ∷ ascii ".LINKER_INFO" ∷ (li ++ ([] ∷ ascii ".DEBUG" ∷ comment ∷ [] ∷ debug_rows)))))
        (ascii ".SYMBOL" ∷ (sy ++ (ascii ".LINKER_INFO" ∷ (li ++ (ascii ".DEBUG" ∷ debug_rows))))) ob b1)))

    pub full_utf8 : is_utf8 (flat_map text_line full_file) ≡ true
    full_utf8 = text_utf8 (flat_map text_line full_file) (text-lines full_file (all_map (λ l q. q.1) full_file full_fixed))

    pub full_body_lem : after_magic (kept_lines (flat_map text_line full_file)) ≡ given full_body
    unfolding ascii
    full_body_lem =
        ap after_magic (ap kept_lines (sym (append-nil (flat_map text_line full_file)))
        ∙ kept_whole 0x4C (ascii "C-3 OBJ FILE") after_title before_bar (ascii "===================") 0x3D 0 last_bar_lem (omega arith, omega arith) (omega arith, omega arith) (all_map (λ l q. q.0) full_file full_fixed)
        ∙ full-keep)
        ∙ body_title full_body

    pub full-parts : parts_at is_header full_body ≡ record { before = []; groups = (ascii ".TEXT", bl) ∷ (ascii ".SYMBOL", sy) ∷ (ascii ".LINKER_INFO", li) ∷ (ascii ".DEBUG", debug_rows) ∷ [] }
    full-parts =
        group_step (ascii ".TEXT") bl (ascii ".SYMBOL" ∷ (sy ++ (ascii ".LINKER_INFO" ∷ (li ++ (ascii ".DEBUG" ∷ debug_rows))))) ((ascii ".SYMBOL", sy) ∷ (ascii ".LINKER_INFO", li) ∷ (ascii ".DEBUG", debug_rows) ∷ []) head-text ob
        (group_step (ascii ".SYMBOL") sy (ascii ".LINKER_INFO" ∷ (li ++ (ascii ".DEBUG" ∷ debug_rows))) ((ascii ".LINKER_INFO", li) ∷ (ascii ".DEBUG", debug_rows) ∷ []) head-symbol os
        (group_step (ascii ".LINKER_INFO") li (ascii ".DEBUG" ∷ debug_rows) ((ascii ".DEBUG", debug_rows) ∷ []) head-linker ol (group_last (ascii ".DEBUG") debug_rows head_debug debug_ordinary)))

-- blocks only
abbrev pub EndsVisible : List ℕ → Type 0
EndsVisible l = (xs : List ℕ) × (b : ℕ) × (l ≡ xs ++ b ∷ []) × Visible b

abbrev LastVisible : List (List ℕ) → Type 0
LastVisible ls = (before : List (List ℕ)) × (xs : List ℕ) × (b : ℕ) × (ls ≡ before ++ (xs ++ b ∷ []) ∷ []) × Visible b

last_visible : (l : List ℕ) (ls : List (List ℕ)) → EndsVisible l → All EndsVisible ls → LastVisible (l ∷ ls)
last_visible l [] e h = ([], e.0, e.1, ap (λ (r : List ℕ). r ∷ []) e.2, e.3)
last_visible l (m ∷ ls) e h =
    let r = last_visible m ls h.0 h.1 in
    (l ∷ r.0, r.1, r.2, ap (λ (x : List (List ℕ)). l ∷ x) r.3, r.4)

module _ (bl : List (List ℕ)) (ob : All Ordinary bl) (eb : All EndsVisible bl) where
  abbrev pub short_file : List (List ℕ)
  short_file = title ∷ [] ∷ ascii ".TEXT" ∷ bl

  short_fixed : All Fixed short_file
  short_fixed = (fixed title title_printable, (blank_fixed, (fixed (ascii ".TEXT") text_printable, all_map (λ l q. (q.0, q.1)) bl ob)))

  pub short_utf8 : is_utf8 (flat_map text_line short_file ++ 0x0A ∷ []) ≡ true
  short_utf8 =
      text_utf8 (flat_map text_line short_file ++ 0x0A ∷ [])
      (text-append (flat_map text_line short_file) (0x0A ∷ []) (text-lines short_file (all_map (λ l q. q.1) short_file short_fixed)) (text-ascii (0x0A ∷ []) (omega arith, tt)))

  short-last : LastVisible ([] ∷ ascii ".TEXT" ∷ bl)
  unfolding ascii
  short-last =
      let r = last_visible (ascii ".TEXT") bl (ascii ".TEX", 0x54, refl, (omega arith, omega arith)) eb in
      ([] ∷ r.0, r.1, r.2, ap (λ (x : List (List ℕ)). [] ∷ x) r.3, r.4)

  short-keep : keep is_kept short_file ≡ title ∷ ascii ".TEXT" ∷ bl
  short-keep =
      yes-kept title ([] ∷ ascii ".TEXT" ∷ bl) (ascii ".TEXT" ∷ bl) kept_title
      (not-kept [] (ascii ".TEXT" ∷ bl) (ascii ".TEXT" ∷ bl) dropped_blank (yes-kept (ascii ".TEXT") bl bl kept-text (keep_all is_kept bl (all_map (λ l o. o.2) bl ob))))

  pub short_body : after_magic (kept_lines (flat_map text_line short_file ++ 0x0A ∷ [])) ≡ given (ascii ".TEXT" ∷ bl)
  unfolding ascii
  short_body =
      let r = short-last in
      ap after_magic (kept_whole 0x4C (ascii "C-3 OBJ FILE") ([] ∷ ascii ".TEXT" ∷ bl) r.0 r.1 r.2 1 r.3 (omega arith, omega arith) r.4 (all_map (λ l q. q.0) short_file short_fixed) ∙ short-keep)
      ∙ body_title (ascii ".TEXT" ∷ bl)

  pub short-parts : parts_at is_header (ascii ".TEXT" ∷ bl) ≡ record { before = []; groups = (ascii ".TEXT", bl) ∷ [] }
  short-parts = group_last (ascii ".TEXT") bl head-text ob
