-- The addresses whose lines wrap, and the width of the line table, in a walk along the records. Assumes nothing.
use mathlib.Core.Path.{◌≡◌, refl, sym, ap, ap₂, subst, ◌∙◌}
use mathlib.Core.Bool.{Bool, true}
use mathlib.Core.List.{List, [], ◌∷◌, ◌++◌, map, flat_map, append-nil}
use Prim.Native.Nat.{ℕ, zero, suc, ◌+◌, ◌-◌, ◌^◌, ◌≤◌, ◌<◌, max}
use native.Mathlib.Omega.{arith}
use lib.ListN.{length, take, drop, get_or, length-map, length-drop, take-append-drop}
use lib.Seq.{get_or-drop, length-take-le}
use lib.Dec.{leb, ltb, eqb}
use borrow.Author.Tests.{leb-true, leb-false, ltb-true, ltb-false, eq-eqb, ne_eqb, eqb-true, eqb-false}
use Rattle.std.specs.Prelude.{if◌then◌else◌}
use Rattle.format.specs.Basics.{given_or}
use Rattle.format.specs.ObjectFile.{LineBlock, line_end}
use Rattle.format.specs.Records.{placed, empty_object}
use Rattle.format.specs.Calls.{checked}
use Rattle.format.specs.Source.{line_count}
use Rattle.format.specs.TextWriter.{Row, decimal, widest, plain_rows, add_rows, add_blocks, line_rows, line_width, line_header, line_table}
use Rattle.format.specs.TextWriter.{text_line}
use Rattle.format.proofs.ListLaws.{by_test}
use Rattle.object.specs.Bodies.{body_at}
use Rattle.object.specs.Access.{address_in, kind_at, line_block_at}
use Rattle.object.proofs.Formed.{formed}
use Rattle.object.proofs.BodyLaws.{body_fits}
use Rattle.object.proofs.ByteLaws.{body_word}
use Rattle.source_info.proofs.RecordLaws.{Left, start, finish, here, lines-here, lines_other}
use Rattle.text_lines_out.specs.Merge.{smaller, block_rows, wrapped, walk_from}
use Rattle.text_lines_out.specs.Lines.{At, rows_text}
use Rattle.text_lines_out.specs.Runs.{address_from, run_rows}
use Rattle.text_lines_out.specs.Walk.{line_blocks_in, walk_rows, wrapped_at, Wraps, last_line, block_top, blocks_top, top_at}
use Rattle.text_lines_out.specs.declared.Wrapped.{Wrapped}
use Rattle.text_lines_out.proofs.MergeLaws.{Apart, lines-apart, line_walk, add-append, wrapped-cons}
use Rattle.text_lines_out.proofs.LineLaws.{run-block, map_at_place, at_back}
use Rattle.text_lines_out.proofs.WidthLaws.{decimal-rises, wide-block, wide-wrapped}
use Rattle.text_lines_out.proofs.BlockLaws.{line_blocks_of, rows_append}

-- A RECORD of a walk along the line blocks
module _ (ws : List ℕ) (at e : ℕ) (ls : List LineBlock) where
  pub record Steps : Type 0 where
    pub past : ℕ
    pub others : List LineBlock
    pub line : kind_at ws at ≡ 3 → (ls ≡ line_block_at ws at ∷ others) × (past ≡ line_end (line_block_at ws at))
    pub other : (kind_at ws at ≡ 3 → ⊥) → ls ≡ others
    pub apart : Apart past others
    pub left : (n : ℕ) → n ≡ at + 1 + length (body_at ws (at + 1)) → Left ws n line_blocks_of others

  pub steps : at < length ws → Left ws at line_blocks_of ls → Apart e ls → Steps
  steps h q a =
      let g = here ws line_blocks_of at ls h q in
      let rest : List LineBlock = (placed g.rest).line_blocks in
      let next : (n : ℕ) → n ≡ at + 1 + length (body_at ws (at + 1)) → Left ws n line_blocks_of rest =
      λ n z. subst (λ (k : ℕ). Left ws k line_blocks_of rest) (sym z)
      (record { records = g.rest; stops = g.stops; read = g.read; same = refl }) in
      by_test (eqb (kind_at ws at) 3)
      (λ t. let k = eqb-true (kind_at ws at) 3 t in
      let same : line_block_at ws at ∷ rest ≡ ls = sym (lines-here ws at g.rest k) ∙ g.same in
      let b : Apart e (line_block_at ws at ∷ rest) = subst (λ (xs : List LineBlock). Apart e xs) (sym same) a in
      record {
        past = line_end (line_block_at ws at);
        others = rest;
        line = λ z. (sym same, refl);
        other = λ z. absurd (z k);
        apart = b.2;
        left = next;
      })
      (λ t. let no = eqb-false (kind_at ws at) 3 t in
      let same : rest ≡ ls = lines_other ws at g.rest no ∙ g.same in
      record {
        past = e;
        others = rest;
        line = λ z. absurd (no z);
        other = λ z. sym same;
        apart = subst (λ (xs : List LineBlock). Apart e xs) (sym same) a;
        left = next;
      })

module _ (ws : List ℕ) where
  pub blocks_start : checked ws ≡ 0 → Left ws 0 line_blocks_of (line_blocks_in ws) × Apart 0 (line_blocks_in ws)
  blocks_start e =
      let f = formed ws e in
      let q : line_blocks_in ws ≡ f.object.line_blocks = ap (λ o. (given_or o empty_object).line_blocks) f.is in (
        subst (λ (ls : List LineBlock). Left ws 0 line_blocks_of ls) (sym q) (start ws line_blocks_of f.object f.is),
        subst (λ (ls : List LineBlock). Apart 0 ls) (sym q) (lines-apart ws f.object f.is),
      )

  pub blocks_end : (at : ℕ) (ls : List LineBlock) → length ws ≤ at → Left ws at line_blocks_of ls → [] ≡ ls
  unfolding empty_object
  blocks_end at ls h l = finish ws line_blocks_of at ls h l

  pub blocks-less : (at n : ℕ) → at < length ws → n ≡ at + 1 + length (body_at ws (at + 1)) → (at < n) × (n ≤ length ws)
  blocks-less at n h e = (omega arith, omega (arith, body_fits ws (at + 1) (omega arith)))

-- THE ADDRESSES WHOSE LINES WRAP
none-wrapped : (p : ℕ) (ls : List LineBlock) → Apart p ls → 2 ^ 64 ≤ p → wrapped ls ≡ []
unfolding wrapped flat_map
none-wrapped p [] a h = refl
none-wrapped p (l ∷ ls) a h = let u = a.0 in let v = a.1 in absurd (omega arith)

module _ (ws : List ℕ) (at e : ℕ) (ls : List LineBlock) (g : Steps ws at e ls) where
  pub wrapped-on : wrapped_at ws at ≡ [] → wrapped ls ≡ wrapped g.others
  unfolding wrapped_at
  wrapped-on n =
      by_test (eqb (kind_at ws at) 3)
      (λ t. let k = g.line (eqb-true (kind_at ws at) 3 t) in
      let z : drop (2 ^ 64 - (line_block_at ws at).first) (line_block_at ws at).addresses ≡ [] = simp t at n in
      ap wrapped k.0 ∙ wrapped-cons (line_block_at ws at) g.others ∙ ap (λ (xs : List ℕ). xs ++ wrapped g.others) z)
      (λ t. ap wrapped (g.other (eqb-false (kind_at ws at) 3 t)))

  pub wrapped-here : 0 < length (wrapped_at ws at) → wrapped ls ≡ wrapped_at ws at
  unfolding wrapped_at
  wrapped-here h =
      by_test (eqb (kind_at ws at) 3)
      (λ t. let l = line_block_at ws at in
      let k = g.line (eqb-true (kind_at ws at) 3 t) in
      let xs : List ℕ = drop (2 ^ 64 - l.first) l.addresses in
      let z : 0 < length xs = simp t at h in
      let over : 2 ^ 64 ≤ g.past = (let w = length-drop (2 ^ 64 - l.first) l.addresses in omega (arith, k.1)) in
      ap wrapped k.0 ∙ wrapped-cons l g.others ∙ ap (λ (ys : List ℕ). xs ++ ys) (none-wrapped g.past g.others g.apart over)
      ∙ append-nil xs
      ∙ sym (ap (λ (c : Bool). if c then xs else []) t))
      (λ t. let z : 0 < 0 = simp t at h in absurd (omega arith))

pub wrapped-nothing : wrapped [] ≡ []
unfolding wrapped flat_map
wrapped-nothing = refl

pub wraps-none : (ws : List ℕ) (r : Wrapped) (xs : List ℕ) → xs ≡ [] → r.count ≡ 0 → Wraps ws xs r
unfolding run_rows block_rows
wraps-none ws r xs e z = record {
  count = z ∙ sym (ap length e);
  rows = ap (run_rows 0 (address_from true ws r.place) 0) z ∙ sym (ap (block_rows 0) e);
}

wrapped-other : (ws : List ℕ) (at : ℕ) → (kind_at ws at ≡ 3 → ⊥) → wrapped_at ws at ≡ []
unfolding wrapped_at
wrapped-other ws at n = rw (ne_eqb (kind_at ws at) 3 n)

-- of numbers
kept-over : (n f j : ℕ) → j < n - (2 ^ 64 - f) → smaller n (2 ^ 64 - f) ≡ 2 ^ 64 - f
kept-over n f j h = omega arith

rest_over : (n d : ℕ) → n - smaller n d ≡ n - d
rest_over n d = omega arith

-- the words of a line block whose lines wrap
module _ (ws : List ℕ) (at : ℕ) (k : kind_at ws at ≡ 3) (kept : ℕ) (r : Wrapped)
    (e : kept ≡ smaller (length (body_at ws (at + 1 + 3))) (2 ^ 64 - (line_block_at ws at).first))
    (place : r.place ≡ at + 1 + 3 + kept) (count : r.count ≡ length (body_at ws (at + 1 + 3)) - kept) where
  abbrev body : List ℕ
  body = body_at ws (at + 1 + 3)

  abbrev d : ℕ
  d = 2 ^ 64 - (line_block_at ws at).first

  abbrev xs : List ℕ
  xs = drop d (map address_in body)

  count_is : r.count ≡ length xs
  count_is =
      count ∙ ap (λ (x : ℕ). length body - x) e ∙ rest_over (length body) d
      ∙ sym (length-drop d (map address_in body) ∙ ap (λ (x : ℕ). x - d) (length-map body address_in))

  word_is : (j : ℕ) → j < length xs → address_in (get_or ws (r.place + j) 0) ≡ get_or xs j 0
  word_is j h =
      let m : length xs ≡ length body - d = length-drop d (map address_in body) ∙ ap (λ (x : ℕ). x - d) (length-map body address_in) in
      let z : j < length body - d = subst (λ (x : ℕ). j < x) m h in
      let q : kept ≡ d = e ∙ kept-over (length body) (line_block_at ws at).first j z in
      let i : ℕ = d + j in
      let b : i < length body = omega arith in
      let y : r.place + j ≡ at + 1 + 3 + i = omega (arith, place, q) in
      ap (λ (x : ℕ). address_in (get_or ws x 0)) y ∙ ap address_in (sym (body_word ws (at + 1 + 3) i b)) ∙ sym (map_at_place body i b)
      ∙ sym (get_or-drop d (map address_in body) j 0)

  pub wraps-block : Wraps ws (wrapped_at ws at) r
  unfolding wrapped_at
  wraps-block =
      let t = eq-eqb (kind_at ws at) 3 k in
      let q : wrapped_at ws at ≡ xs = ap (λ (c : Bool). if c then xs else []) t in
      record {
        count = count_is ∙ sym (ap length q);
        rows = ap (run_rows 0 (address_from true ws r.place) 0) count_is ∙ run-block 0 ws r.place xs word_is
            ∙ sym (ap (block_rows 0) q);
      }

pub wraps-other : (ws : List ℕ) (at : ℕ) (r : Wrapped) → (kind_at ws at ≡ 3 → ⊥) → r.count ≡ 0 → Wraps ws (wrapped_at ws at) r
wraps-other ws at r n z = wraps-none ws r (wrapped_at ws at) (wrapped-other ws at n) z

pub none_here : (xs : List ℕ) → length xs ≡ 0 → xs ≡ []
none_here [] e = refl
none_here (x ∷ xs) e = absurd (omega arith)

-- THE WIDTH, by the largest line number
abbrev digits : ℕ → ℕ
digits n = length (decimal n)

larger_wide : (L top : ℕ) → max (digits L) (max (digits top) 4) ≡ max (digits (top + (L - top))) 4
larger_wide L top =
    by_test (leb top L)
    (λ t. let h = leb-true top L t in
    let e : L ≡ top + (L - top) = omega arith in
    absorbed (digits L) (digits top) (decimal-rises top L h) ∙ ap (λ (x : ℕ). max (digits x) 4) e)
    (λ t. let h = leb-false top L t in
    let e : top ≡ top + (L - top) = omega arith in
    let k : digits L ≤ digits top = decimal-rises L top (omega arith) in
    covered (digits L) (digits top) k ∙ ap (λ (x : ℕ). max (digits x) 4) e)
  where
    absorbed : (a b : ℕ) → b ≤ a → max a (max b 4) ≡ max a 4
    absorbed a b h = omega arith

    covered : (a b : ℕ) → a ≤ b → max a (max b 4) ≡ max b 4
    covered a b h = omega arith

wide-set : (f a : ℕ) (xs : List ℕ) (rows : List Row) → f < 2 ^ 64
    → line_width (add_rows f (a ∷ xs) rows) ≡ max (digits (smaller (f + length xs) (2 ^ 64 - 1))) (line_width rows)
wide-set f a xs rows low =
    by_test (ltb (f + length xs) (2 ^ 64))
    (λ t. let h = ltb-true (f + length xs) (2 ^ 64) t in
    let e : f + length xs ≡ smaller (f + length xs) (2 ^ 64 - 1) = omega arith in
    wide-block digits 4 decimal-rises f a xs rows h ∙ ap (λ (x : ℕ). max (digits x) (line_width rows)) e)
    (λ t. let h = ltb-false (f + length xs) (2 ^ 64) t in
    let n : ℕ = 2 ^ 64 - 1 - f in
    let c = take n xs in
    let w = drop n xs in
    let m : length c ≡ n = length-take-le n xs (omega arith) in
    let top : f + length c ≡ 2 ^ 64 - 1 = omega arith in
    let e : 2 ^ 64 - 1 ≡ smaller (f + length xs) (2 ^ 64 - 1) = omega arith in
    let R = add_rows f (a ∷ c) rows in
    let v : line_width R ≡ max (digits (2 ^ 64 - 1)) (line_width rows) =
    wide-block digits 4 decimal-rises f a c rows (omega arith) ∙ ap (λ (x : ℕ). max (digits x) (line_width rows)) top in
    ap (λ (ys : List ℕ). line_width (add_rows f (a ∷ ys) rows)) (sym (take-append-drop n xs))
    ∙ ap line_width (add-append f (a ∷ c) w rows)
    ∙ wide-wrapped digits 4 decimal-rises (f + length (a ∷ c)) w R (above (digits (2 ^ 64 - 1)) (line_width rows) (line_width R) v)
    ∙ v ∙ ap (λ (x : ℕ). max (digits x) (line_width rows)) e)
  where
    above : (a b r : ℕ) → r ≡ max a b → a ≤ r
    above a b r e = omega arith

add_none : (f : ℕ) (rows : List Row) → add_rows f [] rows ≡ rows
unfolding add_rows
add_none f rows = refl

wide-one : (l : LineBlock) (rows : List Row) (top : ℕ) → l.first < 2 ^ 64 → line_width rows ≡ max (digits top) 4
    → line_width (add_rows l.first l.addresses rows) ≡ max (digits (block_top top l)) 4
unfolding block_top
wide-one l rows top low e = go l.addresses refl
  where
    go : (xs : List ℕ) → l.addresses ≡ xs
        → line_width (add_rows l.first l.addresses rows)
        ≡ max (digits (if eqb (length l.addresses) 0 then top else top + (last_line l - top))) 4
    go [] q =
        ap (λ (ys : List ℕ). line_width (add_rows l.first ys rows)) q ∙ ap line_width (add_none l.first rows) ∙ e
        ∙ ap (λ (c : Bool). max (digits (if c then top else top + (last_line l - top))) 4)
        (sym (eq-eqb (length l.addresses) 0 (ap length q)))
    go (a ∷ xs) q =
        let n : length l.addresses ≡ suc (length xs) = ap length q in
        let z : length xs ≡ length l.addresses - 1 = omega arith in
        let f : ℕ = l.first in
        ap (λ (ys : List ℕ). line_width (add_rows l.first ys rows)) q ∙ wide-set f a xs rows low
        ∙ ap (max (digits (smaller (f + length xs) (2 ^ 64 - 1)))) e
        ∙ larger_wide (smaller (f + length xs) (2 ^ 64 - 1)) top
        ∙ ap (λ (x : ℕ). max (digits (top + (smaller (f + x) (2 ^ 64 - 1) - top))) 4) z
        ∙ ap (λ (c : Bool). max (digits (if c then top else top + (last_line l - top))) 4)
        (sym (ne_eqb (length l.addresses) 0 (λ y. omega arith)))

wide-all : (p : ℕ) (ls : List LineBlock) (rows : List Row) (top : ℕ) → Apart p ls → line_width rows ≡ max (digits top) 4
    → line_width (add_blocks ls rows) ≡ max (digits (blocks_top top ls)) 4
unfolding add_blocks blocks_top
wide-all p [] rows top a e = e
wide-all p (l ∷ ls) rows top a e =
    wide-all (line_end l) ls (add_rows l.first l.addresses rows) (block_top top l) a.2 (wide-one l rows top a.1 e)

wide_plain : (i n : ℕ) → line_width (plain_rows i (suc n)) ≡ max (digits (i + n)) 4
unfolding plain_rows widest
wide_plain i zero = let e : i ≡ i + 0 = omega arith in ap (λ (x : ℕ). max (digits x) 4) e
wide_plain i (suc n) =
    let e : suc i + n ≡ i + suc n = omega arith in
    ap (max (digits i)) (wide_plain (suc i) n) ∙ absorbed (digits i) (digits (suc i + n)) (decimal-rises i (suc i + n) (omega arith))
    ∙ ap (λ (x : ℕ). max (digits x) 4) e
  where
    absorbed : (a b : ℕ) → a ≤ b → max a (max b 4) ≡ max b 4
    absorbed a b h = omega arith

pub width_is : (lines p : ℕ) (ls : List LineBlock) → 1 ≤ lines → Apart p ls
    → line_width (add_blocks ls (plain_rows 0 lines)) ≡ max (length (decimal (blocks_top (lines - 1) ls))) 4
width_is lines p ls h a =
    let e : lines ≡ suc (lines - 1) = omega arith in
    let z : 0 + (lines - 1) ≡ lines - 1 = omega arith in
    wide-all p ls (plain_rows 0 lines) (lines - 1) a
    (ap (λ (n : ℕ). line_width (plain_rows 0 n)) e ∙ wide_plain 0 (lines - 1) ∙ ap (λ (x : ℕ). max (digits x) 4) z)

pub top_on : (ws : List ℕ) (at e : ℕ) (ls : List LineBlock) (g : Steps ws at e ls) (top : ℕ)
    → blocks_top top ls ≡ blocks_top (top_at ws at top) g.others
unfolding top_at blocks_top
top_on ws at e ls g top =
    by_test (eqb (kind_at ws at) 3)
    (λ t. ap (blocks_top top) (g.line (eqb-true (kind_at ws at) 3 t)).0
    ∙ ap (λ (c : Bool). blocks_top (if c then block_top top (line_block_at ws at) else top) g.others) (sym t))
    (λ t. ap (blocks_top top) (g.other (eqb-false (kind_at ws at) 3 t))
    ∙ ap (λ (c : Bool). blocks_top (if c then block_top top (line_block_at ws at) else top) g.others) (sym t))

pub top_end : (top : ℕ) → blocks_top top [] ≡ top
unfolding blocks_top
top_end top = refl

module _ (ws : List ℕ) (at top : ℕ) where
  pub top_other : (kind_at ws at ≡ 3 → ⊥) → top ≡ top_at ws at top
  unfolding top_at
  top_other n = rw (ne_eqb (kind_at ws at) 3 n) refl

  pub top_none : kind_at ws at ≡ 3 → length (body_at ws (at + 1 + 3)) ≡ 0 → top ≡ top_at ws at top
  unfolding top_at block_top
  top_none k e =
      rw (eq-eqb (kind_at ws at) 3 k)
      (rw (eq-eqb (length (line_block_at ws at).addresses) 0 (length-map (body_at ws (at + 1 + 3)) address_in ∙ e)) refl)

  pub top_some : kind_at ws at ≡ 3 → (length (body_at ws (at + 1 + 3)) ≡ 0 → ⊥)
      → top + (smaller ((line_block_at ws at).first + (length (body_at ws (at + 1 + 3)) - 1)) (2 ^ 64 - 1) - top) ≡ top_at ws at top
  unfolding top_at block_top
  top_some k n =
      let m = length-map (body_at ws (at + 1 + 3)) address_in in
      rw (eq-eqb (kind_at ws at) 3 k)
      (rw (ne_eqb (length (line_block_at ws at).addresses) 0 (λ z. n (sym m ∙ z)))
      (ap (λ (x : ℕ). top + (smaller ((line_block_at ws at).first + (x - 1)) (2 ^ 64 - 1) - top)) (sym m)))

-- THE LINE TABLE, part by part
module _ (ws s : List ℕ) (lines width : ℕ) (r : Wrapped) (e : checked ws ≡ 0) (counted : lines ≡ line_count s) (few : lines ≤ 2 ^ 64)
    (short : r.count ≤ 2 ^ 64) (w : Wraps ws (wrapped (line_blocks_in ws)) r)
    (wide_is : width ≡ line_width (add_blocks (line_blocks_in ws) (plain_rows 0 lines))) where
  abbrev pub wrapped_rows : List ℕ
  wrapped_rows = rows_text width s (run_rows 0 (address_from true ws r.place) 0 r.count)

  abbrev pub walked_rows : List ℕ
  walked_rows = rows_text width s (walk_rows ws lines r.count)

  abbrev ls : List LineBlock
  ls = line_blocks_in ws

  rows_are : line_rows s ls ≡ run_rows 0 (address_from true ws r.place) 0 r.count ++ walk_rows ws lines r.count
  unfolding walk_rows
  rows_are =
      line_walk s ls (subst (λ (n : ℕ). n ≤ 2 ^ 64) counted few) (blocks_start ws e).1 (subst (λ (n : ℕ). n ≤ 2 ^ 64) w.count short)
      ∙ ap₂ (λ (x y : List Row). x ++ y) (sym w.rows)
      (ap (λ (n : ℕ). walk_from n (length (wrapped ls)) (smaller (length (wrapped ls)) n) ls) (sym counted)
      ∙ ap (λ (n : ℕ). walk_from lines n (smaller n lines) ls) (sym w.count))

  width_of : line_width (line_rows s ls) ≡ width
  unfolding line_rows
  width_of = sym (wide_is ∙ ap (λ (n : ℕ). line_width (add_blocks ls (plain_rows 0 n))) counted)

  pub table_parts_lem : line_table s ls ≡ text_line (line_header width) ++ (wrapped_rows ++ walked_rows)
  unfolding line_table rows_text
  table_parts_lem =
      ap (λ (k : ℕ). text_line (line_header k) ++ rows_text k s (line_rows s ls)) width_of
      ∙ ap (λ (t : List ℕ). text_line (line_header width) ++ t)
      (ap (rows_text width s) rows_are
      ∙ rows_append width s (run_rows 0 (address_from true ws r.place) 0 r.count) (walk_rows ws lines r.count))

  pub wrapped_passed : (x : ℕ) → At s (0 + r.count) x → At s (smaller r.count lines) x
  wrapped_passed x a =
      let z : 0 + r.count ≡ r.count = omega arith in
      subst (λ (m : ℕ). At s (smaller r.count m) x) (sym counted)
      (at_back s r.count x (subst (λ (m : ℕ). At s m x) z a))

pub some_lines : (s : List ℕ) (lines : ℕ) → lines ≡ line_count s → 1 ≤ lines
unfolding line_count
some_lines s lines e = omega arith
