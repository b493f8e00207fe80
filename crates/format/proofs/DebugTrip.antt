-- The .DEBUG group gives the labels' starts, the line blocks and the source back. Assumes nothing.
use mathlib.Core.Path.{◌≡◌, refl, sym, ◌∙◌, ap, subst}
use mathlib.Core.Bool.{Bool, true, false}
use mathlib.Core.List.{List, [], ◌∷◌, ◌++◌, map, map-map, flat_map}
use mathlib.Core.Option.{Option, none, some}
use Prim.Native.Nat.{ℕ, suc, ◌-◌, ◌^◌, ◌≤◌, ◌<◌}
use native.Mathlib.Omega.{arith}
use lib.ListN.{length, replicate}
use lib.Dec.{ltb, eqb}
use borrow.Author.Tests.{ltb-true}
use Rattle.std.specs.Prelude.{if◌then◌else◌}
use Rattle.format.specs.Basics.{given, ◌>>=◌, ascii, is_empty, chain, All, is_some}
use Rattle.format.specs.Utf8.{trim, characters}
use Rattle.format.specs.ObjectFile.{LineBlock, ObjectFile, line_end}
use Rattle.format.specs.Records.{with_lines}
use Rattle.format.specs.Source.{line_count, newlines}
use Rattle.format.specs.TextWriter.{line_row, line_header, line_width, text_line, table_div, spaces, to_left, Row, add_blocks, line_rows, source_cell, line_table as lineText}
use Rattle.format.specs.TextReader.{splitn, same_cells, rows_under, parse_label_table, parse_line_rows, runs_from, unescape, parse_line_table, is_bar, split_at_bar, up_to_bar, parse_debug_group}
use Rattle.format.proofs.ListLaws.{both, all_append, flat_map-map}
use Rattle.format.proofs.NumeralBack.{full_of}
use Rattle.format.proofs.Utf8Laws.{Text, text-append}
use Rattle.format.proofs.TrimLaws.{Visible, visible_solid, trim_solid}
use Rattle.format.proofs.EscapeLaws.{Printable}
use Rattle.format.proofs.LineLaws.{one-line-append, printable_line}
use Rattle.format.proofs.CellLaws.{cells_2, undivided_solid}
use Rattle.format.proofs.RowLaws.{Ordinary, Starts, Numbered, starts-append, row_ordinary, printable_text, spaces_printable, divider_printable, line-rows, line_ordinary}
use Rattle.format.proofs.LabelTrip.{rows_under_lem, same_self, left-cell}
use Rattle.format.specs.Fair.{FairLineBlock, gaps_between}
use Rattle.format.proofs.RunLaws.{rows_from, plain_rows_lem, laid, Spaced, add-blocks, runs_back, laid_length, laid_words, rows-addresses, rows_numbered}
use Rattle.format.proofs.SourceLaws.{cells_flat_map, source_unescapes, cell_printable}

-- bars
pub split_bar : (xs : List (List ℕ)) (b : List ℕ) (ys : List (List ℕ)) → All (λ l. is_bar l ≡ false) xs → is_bar b ≡ true → split_at_bar (xs ++ b ∷ ys) ≡ record { before = xs; after = some ys }
unfolding split_at_bar
split_bar [] b ys h e = rw e
split_bar (x ∷ xs) b ys h e = rw (h.0, split_bar xs b ys h.1 e)

pub up_to_bar_lem : (xs : List (List ℕ)) (b : List ℕ) → is_bar b ≡ true → up_to_bar (xs ++ b ∷ []) ≡ some xs
unfolding up_to_bar
up_to_bar_lem [] b e = rw e
up_to_bar_lem (x ∷ []) b e = rw e
up_to_bar_lem (x ∷ y ∷ xs) b e = rw (up_to_bar_lem (y ∷ xs) b e)

pub debug_tables :
    (h : ObjectFile) (ix ln : List (List ℕ)) (b : List ℕ) → All (λ l. is_bar l ≡ false) ix → is_bar b ≡ true
    → parse_debug_group h (ix ++ (b ∷ (ln ++ b ∷ []))) ≡ (parse_label_table h ix >>= λ h'. parse_line_table h' ln)
unfolding parse_debug_group
debug_tables h [] ln b n e = rw (split_bar [] b (ln ++ b ∷ []) n e, up_to_bar_lem ln b e)
debug_tables h (x ∷ ix) ln b n e = rw (split_bar (x ∷ ix) b (ln ++ b ∷ []) n e, up_to_bar_lem ln b e)

-- the line table
line_table_path :
    (h : ObjectFile) (ls rows : List (List ℕ)) (parsed : List (Option ℕ × List ℕ)) (s : List ℕ) → rows_under 28 (ascii "LINE" ∷ ascii "ADDR" ∷ ascii "SOURCE" ∷ []) ls ≡ given rows
    → parse_line_rows 0 rows ≡ given parsed → is_empty parsed ≡ false → is_some h.source ≡ false → unescape (flat_map (λ r. r.1) parsed) ≡ given s
    → parse_line_table h ls ≡ given (with_lines h (runs_from 0 [] (map (λ r. r.0) parsed)) (some s))
unfolding parse_line_table
line_table_path h ls rows parsed s h1 h2 h3 h4 h5 = rw (h1, h2, h3, h4, h5)

LINE_visible : All Visible (ascii "LINE")
unfolding ascii
LINE_visible = omega arith

ADDR_visible : All Visible (ascii "ADDR")
unfolding ascii
ADDR_visible = omega arith

SOURCE_visible : All Visible (ascii "SOURCE")
unfolding ascii
SOURCE_visible = omega arith

line-header : (w : ℕ) → same_cells (map trim (splitn 2 (line_header w))) (ascii "LINE" ∷ ascii "ADDR" ∷ ascii "SOURCE" ∷ []) ≡ true
line-header w =
    let a = left-cell w (ascii "LINE") LINE_visible in
    let b = visible_solid (ascii "ADDR") ADDR_visible in
    rw (cells_2 (to_left w (ascii "LINE")) (ascii "ADDR") (ascii "SOURCE") a.1 (undivided_solid (ascii "ADDR") b), a.0, trim_solid (ascii "ADDR") b, trim_solid (ascii "SOURCE") (visible_solid (ascii "SOURCE") SOURCE_visible))
    (same_self (ascii "LINE" ∷ ascii "ADDR" ∷ ascii "SOURCE" ∷ []))

pub visible_printable : (t : List ℕ) → All Visible t → All Printable t
visible_printable [] h = tt
visible_printable (b ∷ bs) h = ((omega (arith, h.0.0), h.0.1), visible_printable bs h.1)

pub left_printable : (w : ℕ) (t : List ℕ) → All Visible t → All Printable (to_left w t)
left_printable w t h = all_append Printable t (spaces (w - characters t)) (visible_printable t h) (spaces_printable (w - characters t))

LINE-starts : (w : ℕ) → Starts (to_left w (ascii "LINE"))
unfolding ascii
LINE-starts w = (λ e. omega arith, λ e. omega arith)

pub header_ordinary : (w : ℕ) → Ordinary (line_header w)
header_ordinary w =
    let a : List ℕ = to_left w (ascii "LINE") in
    let b : List ℕ = ascii "ADDR" in
    let c : List ℕ = ascii "SOURCE" in
    let pa = left_printable w (ascii "LINE") LINE_visible in
    let pb = visible_printable b ADDR_visible in
    let pc = visible_printable c SOURCE_visible in
    row_ordinary (a ++ table_div ++ b) c (starts-append (a ++ table_div) b (starts-append a table_div (LINE-starts w)))
    (one-line-append (a ++ table_div) b (one-line-append a table_div (printable_line a pa) (printable_line table_div divider_printable)) (printable_line b pb)) (printable_line c pc)
    (text-append (a ++ table_div) b (text-append a table_div (printable_text a pa) (printable_text table_div divider_printable)) (printable_text b pb)) (printable_text c pc)

pub newlines-length : (s : List ℕ) → newlines s ≤ length s
unfolding newlines
newlines-length [] = omega arith
newlines-length (b ∷ bs) = let ih = newlines-length bs in go (eqb b 10) ih
  where
    go : (t : Bool) → newlines bs ≤ length bs → (if t then suc (newlines bs) else newlines bs) ≤ suc (length bs)
    go true h = omega arith
    go false h = omega arith

-- a row as it is read
abbrev pub read_row : List ℕ → Row → Option ℕ × List ℕ
read_row s r = (r.address, source_cell s r.number)

module _ (s : List ℕ) (ls : List LineBlock) where
  abbrev pub laid_out : List (Option ℕ)
  laid_out = laid 0 (line_count s) ls

  pub rows_are : line_count s ≤ 2 ^ 64 → Spaced 0 (line_count s) ls → line_rows s ls ≡ rows_from 0 laid_out
  unfolding line_rows
  rows_are small sp =
      let z : line_count s ≡ line_count s - 0 = omega arith in
      ap (add_blocks ls) (plain_rows_lem 0 (line_count s) ∙ ap (λ (n : ℕ). rows_from 0 (replicate n none)) z) ∙ add-blocks (line_count s) [] 0 ls refl small sp

  abbrev pub line_lines : List (List ℕ)
  line_lines = line_header (line_width (line_rows s ls)) ∷ map (line_row (line_width (line_rows s ls)) (source_cell s)) (line_rows s ls)

  pub line-lines : lineText s ls ≡ flat_map text_line line_lines
  unfolding lineText flat_map
  line-lines = ap (λ (r : List ℕ). text_line (line_header (line_width (line_rows s ls))) ++ r) (sym (flat_map-map text_line (line_row (line_width (line_rows s ls)) (source_cell s)) (line_rows s ls)))

  module _ (x : Text s) (small : line_count s ≤ 2 ^ 64) (sp : Spaced 0 (line_count s) ls) (words : All (λ l. All (λ a. a < 2 ^ 16) l.addresses) ls) where
    laid_size : length laid_out ≡ line_count s
    laid_size = let e = laid_length 0 (line_count s) ls sp in omega arith

    numbered : (w : ℕ) → Numbered w (source_cell s) 0 (line_rows s ls)
    numbered w =
        subst (λ (r : List Row). Numbered w (source_cell s) 0 r) (sym (rows_are small sp))
        (let e = laid_size in rows_numbered w (source_cell s) 0 laid_out (omega arith) (laid_words 0 (line_count s) ls words))

    abbrev parsed_rows : List (Option ℕ × List ℕ)
    parsed_rows = map (read_row s) (line_rows s ls)

    not-empty : is_empty parsed_rows ≡ false
    not-empty = ap (λ (r : List Row). is_empty (map (read_row s) r)) (rows_are small sp) ∙ go laid_out laid_size
      where
        go : (os : List (Option ℕ)) → length os ≡ line_count s → is_empty (map (read_row s) (rows_from 0 os)) ≡ false
        go [] e = absurd (let q : length {A = ℕ} [] ≡ suc (newlines s) = unfold line_count in e in omega arith)
        go (o ∷ os) e = unfold rows_from is_empty in refl

    source-column : unescape (flat_map (λ (r : Option ℕ × List ℕ). r.1) parsed_rows) ≡ given s
    source-column =
        ap unescape (flat_map-map (λ (r : Option ℕ × List ℕ). r.1) (read_row s) (line_rows s ls)
        ∙ ap (λ (r : List Row). flat_map (λ (q : Row). source_cell s q.number) r) (rows_are small sp) ∙ cells_flat_map s laid_out laid_size)
        ∙ source_unescapes s x

    address-column : runs_from 0 [] (map (λ (r : Option ℕ × List ℕ). r.0) parsed_rows) ≡ ls
    address-column =
        ap (runs_from 0 []) (map-map (λ (r : Option ℕ × List ℕ). r.0) (read_row s) (line_rows s ls)
        ∙ ap (map (λ (r : Row). r.address)) (rows_are small sp) ∙ rows-addresses 0 laid_out)
        ∙ runs_back 0 (line_count s) ls sp

    pub lines-back : (h : ObjectFile) → is_some h.source ≡ false → parse_line_table h line_lines ≡ given (with_lines h ls (some s))
    lines-back h n =
        line_table_path h line_lines (map (line_row (line_width (line_rows s ls)) (source_cell s)) (line_rows s ls)) parsed_rows s
        (rows_under_lem 28 (ascii "LINE" ∷ ascii "ADDR" ∷ ascii "SOURCE" ∷ []) (line_header (line_width (line_rows s ls))) (map (line_row (line_width (line_rows s ls)) (source_cell s)) (line_rows s ls)) (line-header (line_width (line_rows s ls))))
        (line-rows (line_width (line_rows s ls)) (source_cell s) 0 (line_rows s ls) (numbered (line_width (line_rows s ls)))) not-empty n source-column
        ∙ ap (λ (r : List LineBlock). given (with_lines h r (some s))) address-column

    rows_ordinary : (w i : ℕ) (rows : List Row) → Numbered w (source_cell s) i rows → All Ordinary (map (line_row w (source_cell s)) rows)
    rows_ordinary w i [] h = tt
    rows_ordinary w i (r ∷ rows) h =
        (line_ordinary w (source_cell s) r (omega (arith, h.0, h.1)) (cell_printable s r.number x), rows_ordinary w (suc i) rows h.3)

    pub lines_ordinary : All Ordinary line_lines
    lines_ordinary = (header_ordinary (line_width (line_rows s ls)), rows_ordinary (line_width (line_rows s ls)) 0 (line_rows s ls) (numbered (line_width (line_rows s ls))))

-- fair line blocks are laid out with gaps
abbrev pub first_of : List LineBlock → List LineBlock
first_of [] = []
first_of (l ∷ ls) = l ∷ []

pub fair_spaced : (s : List ℕ) (ls : List LineBlock) (p : ℕ) → p ≤ line_count s → All (λ l. p ≤ l.first) (first_of ls) → All (FairLineBlock s) ls → gaps_between ls ≡ true → Spaced p (line_count s) ls
unfolding chain gaps_between line_count
fair_spaced s [] p n h f c = n
fair_spaced s (l ∷ []) p n h f c = let e = f.0.in_source in (h.0, full_of l.addresses f.0.some_lines, omega arith)
fair_spaced s (l ∷ m ∷ ls) p n h f c =
    let e = f.0.in_source in
    let b = both (ltb (line_end l) m.first) (gaps_between (m ∷ ls)) c in
    (h.0, full_of l.addresses f.0.some_lines, fair_spaced s (m ∷ ls) (suc (line_end l)) (omega arith) (ltb-true (line_end l) m.first b.0, tt) f.1 b.1)
