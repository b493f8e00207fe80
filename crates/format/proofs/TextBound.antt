-- The object of a text file has at most as many words as the file has bytes, so that a read with this room never gives 3; and its source at
-- most as many bytes. Each row that is read has at least as many bytes as it adds to the object's size. Assumes nothing.
use mathlib.Core.Path.{◌≡◌}
use mathlib.Core.Bool.{Bool, false, not}
use mathlib.Core.List.{List, [], ◌∷◌, ◌++◌, map, flat_map}
use mathlib.Core.Option.{Option, none, some}
use Prim.Native.Nat.{ℕ, zero, suc, ◌+◌, ◌-◌, ◌*◌, ◌^◌, ◌≤◌}
use native.Mathlib.Omega.{arith}
use lib.ListN.{length, length-append, length-map, take, drop}
use lib.Dec.{leb, eqb}
use Rattle.format.specs.Basics.{Outcome, given, ◌>>=◌, is_some, is_empty, ascii, eqs, begins_with, all_some}
use Rattle.format.specs.Tokens.{Parts, parts_at, scan_tokens, fold_outcome}
use Rattle.format.specs.Sorted.{at_key}
use Rattle.format.specs.Utf8.{is_utf8, trim}
use Rattle.format.specs.ObjectFile.{ObjectFile, block_key, source_text}
use Rattle.format.specs.Records.{empty_object, label_named, text_questions, concluded}
use Rattle.format.specs.TextReader.{hex2u16, parse_decimal, maybe_hex2u16, splitn, cell_at, same_cells, rows_under, block_at, parse_text_group}
use Rattle.format.specs.TextReader.{parse_symbol_row, parse_symbol_group, parse_linker_row, parse_linker_group, parse_label_row, parse_label_table}
use Rattle.format.specs.TextReader.{parse_line_rows, runs_from, unescape, parse_line_table, is_bar, Split, split_at_bar, up_to_bar, parse_debug_group}
use Rattle.format.specs.TextReader.{parse_group, kept_lines, after_magic, text_object}
use Rattle.format.specs.Words.{words_of}
use Rattle.format.specs.Calls.{read_text, ReadsText}
use Rattle.format.specs.Bounds.{text_room, WordsFit, NeverShort}
use Rattle.format.proofs.Outcomes.{by_if, Gives, Holds, gives, gives_map, gives_bind, gives_need, gives_ask, holds_then}
use Rattle.format.proofs.Numbered.{text_above}
use Rattle.format.proofs.Totals.{total, total_parts, block_adds, label_adds, relocation_adds, concluded-few}
use Rattle.format.proofs.Rooms.{words_fit, never_short}
use Rattle.format.proofs.Sizes.{sizes, size, bytes, words-few, source-bytes-few}
use Rattle.format.proofs.PieceLengths.{trim-few, kept-few, number-long, hex_long, maybe_long}
use Rattle.format.proofs.PieceLengths.{cells_two, cells_three, unescape-few}

-- at most n more than the object h
abbrev Adds : ObjectFile → ℕ → ObjectFile → Type 0
Adds h n g = size g ≤ size h + n

-- BLOCKS

words_paid : (ls : List (List ℕ)) → Holds (λ ws. length ws ≤ bytes ls) (all_some maybe_hex2u16 ls)
unfolding all_some
words_paid [] = omega arith
words_paid (l ∷ ls) =
    holds_then _ (λ _. length l ≡ 4) (maybe_hex2u16 l) _ (maybe_long l) λ v p.
    holds_then _ (λ ws. length ws ≤ bytes ls) (all_some maybe_hex2u16 ls) _ (words_paid ls) λ ws q. omega (arith, p, q)

block_paid : (h : ObjectFile) (l : List ℕ) (ls : List (List ℕ))
    → Gives (λ t. size t.0 + bytes (drop t.1 ls) ≤ size h + bytes (l ∷ ls)) (block_at h (l ∷ ls))
unfolding block_at
block_paid h l [] = tt
block_paid h l (c ∷ ls) =
    gives_need _ (λ _. length l ≡ 4) 24 (hex2u16 l) _ (hex_long l) λ a p.
    gives_need _ (λ _. 1 ≤ length c) 24 (parse_decimal (2 ^ 16) c) _ (number-long 10 (2 ^ 16) c) λ n q.
    gives_ask _ 24 (leb n (length ls)) _ λ _.
    gives_need _ (λ ws. length ws ≤ bytes (take n ls)) 24 (all_some maybe_hex2u16 (take n ls)) _ (words_paid (take n ls)) λ ws r.
    gives_ask _ 25 (not (is_some (at_key block_key (a ∷ []) h.blocks))) _ λ _.
    omega (arith, p, q, r, block_adds sizes h (record { address = a; words = ws }), total_parts length n ls)

blocks_paid : (h : ObjectFile) (k : ℕ) (ls : List (List ℕ)) → Gives (Adds h (bytes (drop k ls))) (scan_tokens block_at h k ls)
unfolding scan_tokens
blocks_paid h k [] = omega arith
blocks_paid h (suc k) (l ∷ ls) = blocks_paid h k ls
blocks_paid h zero (l ∷ ls) =
    gives_bind _ (λ t. size t.0 + bytes (drop t.1 ls) ≤ size h + bytes (l ∷ ls)) (block_at h (l ∷ ls)) _ (block_paid h l ls) λ t p.
    gives_map (Adds t.0 (bytes (drop t.1 ls))) (Adds h (bytes (l ∷ ls))) (λ g q. omega (arith, p, q))
    (scan_tokens block_at t.0 t.1 ls) (blocks_paid t.0 t.1 ls)

-- ROWS

-- one after the other
fold_paid : {A : Type 0} (one : ObjectFile → A → Outcome ObjectFile) (f : A → ℕ)
    → ((h : ObjectFile) (a : A) → Gives (Adds h (f a)) (one h a)) → (h : ObjectFile) (xs : List A)
    → Gives (Adds h (total f xs)) (fold_outcome one h xs)
unfolding fold_outcome
fold_paid one f step h [] = omega arith
fold_paid one f step h (a ∷ xs) =
    gives_bind _ (Adds h (f a)) (one h a) _ (step h a) λ g p.
    gives_map (Adds g (total f xs)) (Adds h (total f (a ∷ xs))) (λ k q. omega (arith, p, q)) (fold_outcome one g xs)
    (fold_paid one f step g xs)

module _ (h : ObjectFile) (l : List ℕ) where
  abbrev cell : ℕ → ℕ → List ℕ
  cell k i = trim (cell_at i (splitn k l))

  within : (k i : ℕ) → length (cell k i) ≤ length (cell_at i (splitn k l))
  within k i = trim-few (cell_at i (splitn k l))

  symbol_paid : Gives (Adds h (length l)) (parse_symbol_row h l)
  unfolding parse_symbol_row
  symbol_paid =
      gives_need _ (λ _. length (cell 2 0) ≡ 4) 26 (hex2u16 (cell 2 0)) _ (hex_long (cell 2 0)) λ a p.
      gives_need _ (λ _. 1 ≤ length (cell 2 1)) 26 (parse_decimal (2 ^ 8) (cell 2 1)) _ (number-long 10 (2 ^ 8) (cell 2 1)) λ e q.
      omega (
        arith,
        p,
        q,
        within 2 0,
        within 2 1,
        within 2 2,
        cells_three l 2,
        label_adds sizes h (record { name = cell 2 2; address = a; external = not (eqb e 0); start = (label_named (cell 2 2) h.labels).start }),
      )

  linker_paid : Gives (Adds h (length l)) (parse_linker_row h l)
  unfolding parse_linker_row
  linker_paid =
      gives_need _ (λ _. length (cell 1 0) ≡ 4) 26 (hex2u16 (cell 1 0)) _ (hex_long (cell 1 0)) λ a p.
      omega (arith, p, within 1 0, within 1 1, cells_three l 1, relocation_adds sizes h (record { address = a; name = cell 1 1 }))

  label_paid : Gives (Adds h (length l)) (parse_label_row h l)
  unfolding parse_label_row
  label_paid =
      gives_need _ (λ _. 1 ≤ length (cell 1 1)) 26 (parse_decimal (2 ^ 64) (cell 1 1)) _ (number-long 10 (2 ^ 64) (cell 1 1)) λ i p.
      let old = label_named (cell 1 0) h.labels in
      let second : 1 ≤ length (cell_at 1 (splitn 1 l)) = omega (arith, p, within 1 1) in
      omega (
        arith,
        second,
        within 1 0,
        cells_two l 1 second,
        label_adds sizes h (record { name = cell 1 0; address = old.address; external = old.external; start = i }),
      )

rows_few : (n : ℕ) (columns ls : List (List ℕ)) → Gives (λ rows. bytes rows ≤ bytes ls) (rows_under n columns ls)
unfolding rows_under
rows_few n columns [] = omega arith
rows_few n columns (l ∷ ls) = gives_ask _ n (same_cells (map trim (splitn (length columns - 1) l)) columns) _ λ _. omega arith

table_paid : (one : ObjectFile → List ℕ → Outcome ObjectFile) → ((h : ObjectFile) (l : List ℕ) → Gives (Adds h (length l)) (one h l))
    → (columns : List (List ℕ)) (h : ObjectFile) (ls : List (List ℕ))
    → Gives (Adds h (bytes ls)) (rows_under 26 columns ls >>= λ rows. fold_outcome one h rows)
table_paid one step columns h ls =
    gives_bind _ (λ rows. bytes rows ≤ bytes ls) (rows_under 26 columns ls) _ (rows_few 26 columns ls) λ rows p.
    gives_map (Adds h (bytes rows)) (Adds h (bytes ls)) (λ g q. omega (arith, p, q)) (fold_outcome one h rows)
    (fold_paid one length step h rows)

-- THE LINE TABLE

abbrev sources : List (Option ℕ × List ℕ) → List ℕ
sources rows = flat_map (λ r. r.1) rows

line-rows_paid : (i : ℕ) (ls : List (List ℕ)) → Gives (λ rows. 5 * length rows + length (sources rows) ≤ bytes ls) (parse_line_rows i ls)
unfolding parse_line_rows flat_map
line-rows_paid i [] = omega arith
line-rows_paid i (l ∷ ls) =
    let at : ℕ → List ℕ = λ k. cell_at k (splitn 2 l) in
    gives_need _ (λ _. 1 ≤ length (trim (at 0))) 28 (parse_decimal (2 ^ 64) (trim (at 0))) _ (number-long 10 (2 ^ 64) (trim (at 0))) λ m p.
    gives_ask _ 28 (eqb m i) _ λ _.
    gives_need _ (λ _. length (trim (at 1)) ≡ 4) 28 (maybe_hex2u16 (trim (at 1))) _ (maybe_long (trim (at 1))) λ a q.
    gives_bind _ (λ rows. 5 * length rows + length (sources rows) ≤ bytes ls) (parse_line_rows (suc i) ls) _
    (line-rows_paid (suc i) ls) λ rows r.
    omega (arith, p, q, r, trim-few (at 0), trim-few (at 1), cells_three l 2, length-append (at 2) (sources rows))

runs_few : (i : ℕ) (run : List ℕ) (rows : List (Option ℕ)) → total sizes.of_lines (runs_from i run rows) ≤ length run + 4 * length rows
unfolding runs_from
runs_few i run [] = omega arith
runs_few i run (some a ∷ rows) = omega (arith, runs_few (suc i) (run ++ a ∷ []) rows, length-append run (a ∷ []))
runs_few i [] (none ∷ rows) = omega (arith, runs_few (suc i) [] rows)
runs_few i (a ∷ run) (none ∷ rows) = omega (arith, runs_few (suc i) [] rows)

rows_some : {A : Type 0} (xs : List A) → is_empty xs ≡ false → 1 ≤ length xs
unfolding is_empty
rows_some [] e = let z : ◌≡◌ {A = ℕ} 0 1 = cc in absurd (omega arith)
rows_some (x ∷ xs) e = omega arith

lines_paid : (h : ObjectFile) (ls : List (List ℕ)) → Gives (Adds h (bytes ls)) (parse_line_table h ls)
unfolding parse_line_table
lines_paid h ls =
    let columns : List (List ℕ) = ascii "LINE" ∷ ascii "ADDR" ∷ ascii "SOURCE" ∷ [] in
    gives_bind _ (λ rows. bytes rows ≤ bytes ls) (rows_under 28 columns ls) _ (rows_few 28 columns ls) λ rows p.
    gives_bind _ (λ parsed. 5 * length parsed + length (sources parsed) ≤ bytes rows) (parse_line_rows 0 rows) _
    (line-rows_paid 0 rows) λ parsed q.
    by_if (Gives (Adds h (bytes ls))) (is_empty parsed) _ _ (λ _. omega arith)
    (λ e. gives_ask _ 29 (not (is_some h.source)) _ λ _.
    gives_bind _ (λ s. length s ≤ length (sources parsed)) (unescape (sources parsed)) _ (unescape-few (sources parsed)) λ s t.
    let os : List (Option ℕ) = map (λ r. r.0) parsed in
    omega (arith, p, q, t, rows_some parsed e, runs_few 0 [] os, length-map parsed (λ r. r.0)))

-- GROUPS

-- .DEBUG: its lines before the first bar, and those between the bars
bar_few : (ls : List (List ℕ)) → Holds (λ after. bytes (split_at_bar ls).before + bytes after ≤ bytes ls) (split_at_bar ls).after
unfolding split_at_bar
bar_few [] = tt
bar_few (l ∷ ls) =
    by_if (λ (p : Split). Holds (λ after. bytes p.before + bytes after ≤ length l + bytes ls) p.after) (is_bar l) _ _
    (λ _. omega arith) (λ _. go (split_at_bar ls).after (bar_few ls))
  where
    go : (o : Option (List (List ℕ))) → Holds (λ after. bytes (split_at_bar ls).before + bytes after ≤ bytes ls) o
        → Holds (λ after. bytes (l ∷ (split_at_bar ls).before) + bytes after ≤ length l + bytes ls) o
    go none h = tt
    go (some after) h = omega arith

up_to_few : (ls : List (List ℕ)) → Holds (λ ks. bytes ks ≤ bytes ls) (up_to_bar ls)
unfolding up_to_bar
up_to_few [] = tt
up_to_few (l ∷ []) = by_if (Holds (λ ks. bytes ks ≤ bytes (l ∷ []))) (is_bar l) _ _ (λ _. omega arith) (λ _. tt)
up_to_few (l ∷ m ∷ ls) =
    holds_then _ (λ ks. bytes ks ≤ bytes (m ∷ ls)) (up_to_bar (m ∷ ls)) _ (up_to_few (m ∷ ls)) λ ks i. omega (arith, i)

debug_paid : (h : ObjectFile) (ls : List (List ℕ)) → Gives (Adds h (bytes ls)) (parse_debug_group h ls)
unfolding parse_debug_group parse_label_table
debug_paid h [] = omega arith
debug_paid h (l ∷ ls) =
    let before : List (List ℕ) = (split_at_bar (l ∷ ls)).before in
    gives_need _ (λ after. bytes before + bytes after ≤ bytes (l ∷ ls)) 27 (split_at_bar (l ∷ ls)).after _ (bar_few (l ∷ ls)) λ after p.
    gives_need _ (λ rows. bytes rows ≤ bytes after) 27 (up_to_bar after) _ (up_to_few after) λ rows q.
    gives_bind _ (Adds h (bytes before)) (parse_label_table h before) _
    (table_paid parse_label_row label_paid (ascii "LABEL" ∷ ascii "INDEX" ∷ []) h before) λ g r.
    gives_map (Adds g (bytes rows)) (Adds h (bytes (l ∷ ls))) (λ k t. omega (arith, p, q, r, t)) (parse_line_table g rows) (lines_paid g rows)

group_paid : (h : ObjectFile) (g : List ℕ × List (List ℕ)) → Gives (Adds h (bytes g.1)) (parse_group h g)
unfolding parse_group parse_text_group parse_symbol_group parse_linker_group
group_paid h g =
    let paid = Gives (Adds h (bytes g.1)) in
    by_if paid (eqs g.0 (ascii ".TEXT")) _ _ (λ _. blocks_paid h 0 g.1)
    (λ _. by_if paid (eqs g.0 (ascii ".SYMBOL")) _ _
    (λ _. table_paid parse_symbol_row symbol_paid (ascii "ADDR" ∷ ascii "EXT" ∷ ascii "LABEL" ∷ []) h g.1)
    (λ _. by_if paid (eqs g.0 (ascii ".LINKER_INFO")) _ _
    (λ _. table_paid parse_linker_row linker_paid (ascii "ADDR" ∷ ascii "LABEL" ∷ []) h g.1)
    (λ _. by_if paid (eqs g.0 (ascii ".DEBUG")) _ _ (λ _. debug_paid h g.1) (λ _. tt))))

-- the lines after each head
abbrev grouped : List (List ℕ × List (List ℕ)) → ℕ
grouped gs = total (λ g. bytes g.1) gs

groups-few : (is_head : List ℕ → Bool) (ls : List (List ℕ))
    → bytes (parts_at is_head ls).before + grouped (parts_at is_head ls).groups ≤ bytes ls
unfolding parts_at
groups-few is_head [] = omega arith
groups-few is_head (l ∷ ls) =
    let i = groups-few is_head ls in
    by_if (λ (p : Parts (List ℕ)). bytes p.before + grouped p.groups ≤ length l + bytes ls) (is_head l) _ _
    (λ _. omega arith) (λ _. omega arith)

magic-few : (ls : List (List ℕ)) → Gives (λ ks. bytes ks ≤ bytes ls) (after_magic ls)
unfolding after_magic
magic-few [] = tt
magic-few (l ∷ ls) = gives_ask _ 21 (eqs l (ascii "LC-3 OBJ FILE")) _ λ _. omega arith

text_paid : (bs : List ℕ) → Gives (λ h. size h ≤ length bs) (text_object bs)
unfolding text_object empty_object
text_paid bs =
    gives_ask _ 20 (is_utf8 bs) _ λ _.
    gives_bind _ (λ ls. bytes ls ≤ bytes (kept_lines bs)) (after_magic (kept_lines bs)) _ (magic-few (kept_lines bs)) λ ls p.
    let groups : List (List ℕ × List (List ℕ)) = (parts_at (begins_with (ascii ".")) ls).groups in
    gives_ask _ 22 (is_empty (parts_at (begins_with (ascii ".")) ls).before) _ λ _.
    gives_bind _ (Adds empty_object (grouped groups)) (fold_outcome parse_group empty_object groups) _
    (fold_paid parse_group (λ g. bytes g.1) group_paid empty_object groups) λ g q.
    gives_map (λ h. size h ≤ size g) (λ h. size h ≤ length bs)
    (λ h r. omega (arith, p, q, r, groups-few (begins_with (ascii ".")) ls, kept-few bs)) (concluded text_questions g)
    (concluded-few sizes g text_questions)

-- THE BOUNDS
module _ (bs : List ℕ) (h : ObjectFile) (e : text_object bs ≡ given h) where
  small : size h ≤ length bs
  small = gives (λ h. size h ≤ length bs) (text_object bs) h (text_paid bs) e

  pub text-words-few : length (words_of h) ≤ length bs
  text-words-few = omega (arith, small, words-few h)

  pub text-source-few : length (source_text h.source) ≤ length bs
  text-source-few = omega (arith, small, source-bytes-few h)

pub text-words_fit : WordsFit read_text text_room
unfolding read_text
text-words_fit =
    words_fit text_object text_room λ bs.
    gives_map (λ h. size h ≤ length bs) (λ h. length (words_of h) ≤ text_room (length bs)) (λ h p. omega (arith, p, words-few h)) (text_object bs)
    (text_paid bs)

pub text_never_short : NeverShort ReadsText text_room
text_never_short = never_short read_text text_room text-words_fit text_above
