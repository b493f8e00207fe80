-- What the text reader gives, for every input, is well formed and in range. Assumes nothing.
use mathlib.Core.Path.{◌≡◌, refl, ap}
use mathlib.Core.Bool.{Bool, true, false, not}
use mathlib.Core.List.{List, [], ◌∷◌, ◌++◌, map, flat_map}
use mathlib.Core.Option.{Option, none, some, get_or}
use Prim.Native.Nat.{Ordering}
use Prim.Native.Nat.{ℕ, suc, ◌+◌, ◌-◌, ◌^◌, ◌≤◌, ◌<◌}
use native.Mathlib.Omega.{arith}
use lib.ListN.{length, length-append, take, length-take, length-map}
use lib.Dec.{leb, ltb, eqb, compare_is_eq}
use borrow.Author.Tests.{ltb-true, le-leb, eqb-true}
use Rattle.format.specs.Basics.{Outcome, given, ◌>>=◌, is_some, is_empty, chain, every, ascii, eqs, begins_with, all_some, All}
use Rattle.format.specs.Tokens.{Parts, parts_at, fold_outcome}
use Rattle.format.specs.Sorted.{order, at_key}
use Rattle.format.specs.Utf8.{is_utf8, trim}
use Rattle.format.specs.ObjectFile.{Label, ObjectFile, LineBlock, block_key, label_key, line_key, line_end, never_fall, apart}
use Rattle.format.specs.Records.{block, label, relocation, put_record, empty_object, label_named, text_questions, ask_all}
use Rattle.format.specs.TextReader.{below_limit, digits_from, parse_number, hex2u16, parse_decimal, maybe_hex2u16, splitn, cell_at, same_cells, rows_under, block_at, parse_text_group, parse_symbol_row, parse_symbol_group, parse_linker_row, parse_linker_group, parse_label_row, parse_label_table, parse_line_rows, runs_from, unescape, parse_line_table, is_bar, Split, split_at_bar, up_to_bar, parse_debug_group, parse_group, kept_lines, after_magic, text_object}
use Rattle.format.specs.Words.{object_of}
use Rattle.format.specs.Calls.{read_text}
use Rattle.format.proofs.ListLaws.{all_map, all_append, all_images}
use Rattle.format.proofs.SortedLaws.{Rises, compare_of_lt, above_trans}
use Rattle.format.proofs.Utf8Laws.{Text, text_of, text-append, text-ascii}
use Rattle.format.proofs.Ranges.{WellFormed, InRange, InLine, In16, In64, Word16}
use Rattle.format.proofs.Outcomes.{by_if, by_option, Gives, Holds, gives, gives_bind, gives_need, gives_ask, holds_then, scan_gives, fold_gives}
use Rattle.format.proofs.TextPieces.{trim-text, kept-text, cell-text, unescape-text}
use Rattle.format.proofs.Invariants.{Whole, words_formed, Sound, Formed, empty_formed, put_formed, lines_formed, concluded_formed}

-- NUMBERS

limit_below : (limit : ℕ) (o : Option ℕ) → Holds (λ n. n < limit) (below_limit limit o)
limit_below limit none = tt
limit_below limit (some n) = by_if (Holds (λ n. n < limit)) (ltb n limit) _ _ (λ e. ltb-true n limit e) (λ _. tt)

number_below : (base limit : ℕ) (bs : List ℕ) → Holds (λ n. n < limit) (parse_number base limit bs)
unfolding parse_number
number_below base limit bs =
    by_if (Holds (λ n. n < limit)) (is_empty bs) _ _ (λ _. tt) (λ _. limit_below limit (digits_from base 0 bs))

hex_below : (bs : List ℕ) → Holds In16 (hex2u16 bs)
unfolding hex2u16
hex_below bs = by_if (Holds In16) (eqb (length bs) 4) _ _ (λ _. number_below 16 (2 ^ 16) bs) (λ _. tt)

word_below : (bs : List ℕ) → Holds Word16 (maybe_hex2u16 bs)
unfolding maybe_hex2u16
word_below bs = by_if (Holds Word16) (eqs bs (ascii "????")) _ _ (λ _. tt) (λ _. holds_then _ In16 (hex2u16 bs) _ (hex_below bs) λ v h. h)

all_hold :
    {A B : Type 0} (P : B → Type 0) (f : A → Option B) → ((a : A) → Holds P (f a)) → (xs : List A)
    → Holds (λ ys. All P ys × (length ys ≡ length xs)) (all_some f xs)
unfolding all_some
all_hold P f h [] = (tt, refl)
all_hold P f h (x ∷ xs) =
    holds_then _ P (f x) _ (h x) λ y p.
    holds_then _ (λ ys. All P ys × (length ys ≡ length xs)) (all_some f xs) _ (all_hold P f h xs) λ ys q.
    ((p, q.0), ap suc q.1)

-- THE RUNS OF A LINE TABLE

-- line blocks from line p on, each after the one before it
abbrev From : ℕ → List LineBlock → Type 0
From p [] = Unit {0}
From p (l ∷ ls) = (p ≤ l.first) × (l.first < line_end l) × InLine l × From (line_end l) ls

from_earlier : (p q : ℕ) (ls : List LineBlock) → p ≤ q → From q ls → From p ls
from_earlier p q [] h f = tt
from_earlier p q (l ∷ ls) h f = (omega (arith, f.0), f.1, f.2, f.3)

-- the run before row i begins at line p
runs_from_lem :
    (p i : ℕ) (run : List ℕ) (rows : List (Option ℕ)) → i ≡ p + length run → i + length rows ≤ 2 ^ 64 → All In16 run → All Word16 rows
    → From p (runs_from i run rows)
unfolding runs_from
runs_from_lem p i run [] e n h w = tt
runs_from_lem p i run (some a ∷ rows) e n h w =
    runs_from_lem p (suc i) (run ++ a ∷ []) rows (omega (arith, length-append run (a ∷ []))) (omega arith)
    (all_append In16 run (a ∷ []) h (w.0, tt)) w.1
runs_from_lem p i [] (none ∷ rows) e n h w =
    from_earlier p (suc i) (runs_from (suc i) [] rows) (omega arith)
    (runs_from_lem (suc i) (suc i) [] rows (omega arith) (omega arith) tt w.1)
runs_from_lem p i (a ∷ run) (none ∷ rows) e n h w =
    let later = runs_from_lem (suc i) (suc i) [] rows (omega arith) (omega arith) tt w.1 in
    (omega arith, omega arith, (omega arith, h), from_earlier _ (suc i) (runs_from (suc i) [] rows) (omega arith) later)

abbrev Stand : List LineBlock → Type 0
Stand ls = Rises line_key ls × All InLine ls × (apart ls ≡ true)

from_stand : (p : ℕ) (ls : List LineBlock) → From p ls → Stand ls
unfolding apart chain order
from_stand p [] f = (tt, tt, refl)
from_stand p (l ∷ []) f = ((tt, tt), (f.2, tt), refl)
from_stand p (l ∷ m ∷ ls) f =
    let i = from_stand (line_end l) (m ∷ ls) f.3 in
    let o : order (line_key l) (line_key m) ≡ Ordering.lt = rw (compare_of_lt l.first m.first (omega (arith, f.1, f.3.0))) in
    let up : Rises line_key (l ∷ m ∷ ls) = ((o, above_trans line_key (line_key l) (line_key m) ls o i.0.0), i.0) in
    (up, (f.2, i.1), rw (le-leb (line_end l) m.first f.3.0, i.2))

runs_stand : (rows : List (Option ℕ)) → length rows ≤ 2 ^ 64 → All Word16 rows → Stand (runs_from 0 [] rows)
runs_stand rows n w = from_stand 0 (runs_from 0 [] rows) (runs_from_lem 0 0 [] rows refl (omega arith) tt w)

-- WHAT THE GROUPS KEEP

-- the line blocks' addresses are asked after the last group; that they are apart is kept
abbrev Any : LineBlock → Type 0
Any l = Unit {0}

abbrev TextKept : ObjectFile → Type 0
TextKept h = Formed Any h × (apart h.line_blocks ≡ true)

block-kept : (h : ObjectFile) (l : List ℕ) (ls : List (List ℕ)) → TextKept h → Gives (λ t. TextKept t.0) (block_at h (l ∷ ls))
unfolding block_at put_record
block-kept h l [] k = tt
block-kept h l (c ∷ ls) k =
    gives_need _ In16 24 (hex2u16 l) _ (hex_below l) λ a p.
    gives_need _ (λ n. n < 2 ^ 16) 24 (parse_decimal (2 ^ 16) c) _ (number_below 10 (2 ^ 16) c) λ n q.
    gives_ask _ 24 (leb n (length ls)) _ λ _.
    gives_need _ (λ ws. All Word16 ws × (length ws ≡ length (take n ls))) 24 (all_some maybe_hex2u16 (take n ls)) _
    (all_hold Word16 maybe_hex2u16 word_below (take n ls)) λ ws r.
    gives_ask _ 25 (not (is_some (at_key block_key (a ∷ []) h.blocks))) _ λ _.
    (put_formed Any h (block (record { address = a; words = ws })) k.0 ((p, r.0), omega (arith, q, r.1, length-take n ls)), k.1)

-- a label that a table adds to
at_key-all : {A : Type 0} (key : A → List ℕ) (P : A → Type 0) (k : List ℕ) (xs : List A) → All P xs → Holds P (at_key key k xs)
unfolding at_key
at_key-all key P k [] h = tt
at_key-all key P k (a ∷ xs) h = by_if (Holds P) (compare_is_eq (order k (key a))) _ _ (λ _. h.0) (λ _. at_key-all key P k xs h.1)

named_below :
    (n : List ℕ) (ls : List Label) → All (λ l. Sound Any (label l)) ls → In16 (label_named n ls).address × In64 (label_named n ls).start
unfolding label_named
named_below n ls h =
    let none_named : Label = record { name = n; address = 0; external = false; start = 0 } in
    by_option (λ o. Holds (λ l. Sound Any (label l)) o → In16 (get_or o none_named).address × In64 (get_or o none_named).start)
    (at_key label_key n ls) (λ _. (omega arith, omega arith)) (λ l _ p. (p.0, p.1)) (at_key-all label_key (λ l. Sound Any (label l)) n ls h)

-- rows: a trimmed cell is a text
abbrev pub cell : ℕ → ℕ → List ℕ → List ℕ
cell k i l = trim (cell_at i (splitn k l))

module _ (h : ObjectFile) (l : List ℕ) (k : TextKept h) (x : Text l) where
  trimmed-text : (n i : ℕ) → Text (cell n i l)
  trimmed-text n i = trim-text (cell_at i (splitn n l)) (cell-text n i l x)

  symbol-kept : Gives TextKept (parse_symbol_row h l)
  unfolding parse_symbol_row put_record
  symbol-kept =
      gives_need _ In16 26 (hex2u16 (cell 2 0 l)) _ (hex_below (cell 2 0 l)) λ a p.
      gives_need _ (λ n. n < 2 ^ 8) 26 (parse_decimal (2 ^ 8) (cell 2 1 l)) _ (number_below 10 (2 ^ 8) (cell 2 1 l)) λ e _.
      let s = (named_below (cell 2 2 l) h.labels k.0.labels.1).1 in
      (put_formed Any h (label (record { name = _; address = a; external = _; start = _ })) k.0 (p, s, trimmed-text 2 2), k.1)

  linker-kept : Gives TextKept (parse_linker_row h l)
  unfolding parse_linker_row put_record
  linker-kept =
      gives_need _ In16 26 (hex2u16 (cell 1 0 l)) _ (hex_below (cell 1 0 l)) λ a p.
      (put_formed Any h (relocation (record { address = a; name = _ })) k.0 (p, trimmed-text 1 1), k.1)

  label_kept : Gives TextKept (parse_label_row h l)
  unfolding parse_label_row put_record
  label_kept =
      gives_need _ In64 26 (parse_decimal (2 ^ 64) (cell 1 1 l)) _ (number_below 10 (2 ^ 64) (cell 1 1 l)) λ i p.
      let a = (named_below (cell 1 0 l) h.labels k.0.labels.1).0 in
      (put_formed Any h (label (record { name = _; address = _; external = _; start = i })) k.0 (a, p, trimmed-text 1 0), k.1)

-- a table's rows are lines of it
rows_all : (n : ℕ) (columns ls : List (List ℕ)) → All Text ls → Gives (All Text) (rows_under n columns ls)
unfolding rows_under
rows_all n columns [] h = tt
rows_all n columns (l ∷ ls) h = gives_ask _ n (same_cells (map trim (splitn (length columns - 1) l)) columns) _ λ _. h.1

-- and a row at a time keeps what each row keeps
table_kept :
    (one : ObjectFile → List ℕ → Outcome ObjectFile) → ((h : ObjectFile) (l : List ℕ) → TextKept h → Text l → Gives TextKept (one h l))
    → (columns : List (List ℕ)) (h : ObjectFile) (ls : List (List ℕ)) → TextKept h → All Text ls
    → Gives TextKept (rows_under 26 columns ls >>= λ rows. fold_outcome one h rows)
table_kept one step columns h ls k x =
    gives_bind _ (All Text) (rows_under 26 columns ls) _ (rows_all 26 columns ls x) λ rows y. fold_gives one TextKept Text step h rows k y

-- the line table
abbrev InRow : Option ℕ × List ℕ → Type 0
InRow r = Word16 r.0 × Text r.1

abbrev InRows : ℕ → List (Option ℕ × List ℕ) → Type 0
InRows i rows = All InRow rows × (i + length rows ≤ 2 ^ 64)

line-rows : (i : ℕ) (ls : List (List ℕ)) → i ≤ 2 ^ 64 → All Text ls → Gives (InRows i) (parse_line_rows i ls)
unfolding parse_line_rows
line-rows i [] n x = (tt, omega arith)
line-rows i (l ∷ ls) n x =
    gives_need _ In64 28 (parse_decimal (2 ^ 64) (cell 2 0 l)) _ (number_below 10 (2 ^ 64) (cell 2 0 l)) λ m p.
    gives_ask _ 28 (eqb m i) _ λ e.
    gives_need _ Word16 28 (maybe_hex2u16 (cell 2 1 l)) _ (word_below (cell 2 1 l)) λ a w.
    let q : m ≡ i = eqb-true m i e in
    gives_bind _ (InRows (suc i)) (parse_line_rows (suc i) ls) _ (line-rows (suc i) ls (omega arith) x.1) λ rows r.
    (((w, cell-text 2 2 l x.0), r.0), omega (arith, r.1))

text-flat_map : {A : Type 0} (f : A → List ℕ) (xs : List A) → All (λ x. Text (f x)) xs → Text (flat_map f xs)
unfolding flat_map
text-flat_map f [] h = text-ascii [] tt
text-flat_map f (x ∷ xs) h = text-append (f x) (flat_map f xs) h.0 (text-flat_map f xs h.1)

lines-kept : (h : ObjectFile) (ls : List (List ℕ)) → TextKept h → All Text ls → Gives TextKept (parse_line_table h ls)
unfolding parse_line_table
lines-kept h ls k x =
    let columns : List (List ℕ) = ascii "LINE" ∷ ascii "ADDR" ∷ ascii "SOURCE" ∷ [] in
    gives_bind _ (All Text) (rows_under 28 columns ls) _ (rows_all 28 columns ls x) λ rows y.
    gives_bind _ (InRows 0) (parse_line_rows 0 rows) _ (line-rows 0 rows (omega arith) y) λ parsed r.
    by_if (Gives TextKept) (is_empty parsed) _ _ (λ _. k)
    (λ _. gives_ask _ 29 (not (is_some h.source)) _ λ _.
    gives_bind _ Text (unescape (flat_map (λ r. r.1) parsed)) _
    (unescape-text (flat_map (λ r. r.1) parsed) (text-flat_map (λ r. r.1) parsed (all_map (λ r q. q.1) parsed r.0))) λ s t.
    let os : List (Option ℕ) = map (λ r. r.0) parsed in
    let f = runs_stand os (omega (arith, r.1, length-map parsed (λ r. r.0)))
    (all_images Word16 (λ r. r.0) parsed (all_map (λ r q. q.0) parsed r.0)) in
    (lines_formed Any h (runs_from 0 [] os) s k.0 (f.0, all_map (λ l q. (q, tt)) (runs_from 0 [] os) f.1) t, f.2))

-- .DEBUG: its lines before the first bar, and those between the bars
module _ (P : List ℕ → Type 0) where
  bar_all : (ls : List (List ℕ)) → All P ls → All P (split_at_bar ls).before × Holds (All P) (split_at_bar ls).after
  unfolding split_at_bar
  bar_all [] h = (tt, tt)
  bar_all (l ∷ ls) h =
      let i = bar_all ls h.1 in
      by_if (λ (p : Split). All P p.before × Holds (All P) p.after) (is_bar l) _ _ (λ _. (tt, h.1)) (λ _. ((h.0, i.0), i.1))

  up_to_all : (ls : List (List ℕ)) → All P ls → Holds (All P) (up_to_bar ls)
  unfolding up_to_bar
  up_to_all [] h = tt
  up_to_all (l ∷ []) h = by_if (Holds (All P)) (is_bar l) _ _ (λ _. tt) (λ _. tt)
  up_to_all (l ∷ m ∷ ls) h = holds_then _ (All P) (up_to_bar (m ∷ ls)) _ (up_to_all (m ∷ ls) h.1) λ ks i. (h.0, i)

  -- groups: the lines after each head
  groups-all :
      (is_head : List ℕ → Bool) (ls : List (List ℕ)) → All P ls
      → All P (parts_at is_head ls).before × All (λ g. All P g.1) (parts_at is_head ls).groups
  unfolding parts_at
  groups-all is_head [] h = (tt, tt)
  groups-all is_head (l ∷ ls) h =
      let i = groups-all is_head ls h.1 in
      by_if (λ (p : Parts (List ℕ)). All P p.before × All (λ g. All P g.1) p.groups) (is_head l) _ _ (λ _. (tt, (i.0, i.1)))
      (λ _. ((h.0, i.0), i.1))

debug_kept : (h : ObjectFile) (ls : List (List ℕ)) → TextKept h → All Text ls → Gives TextKept (parse_debug_group h ls)
unfolding parse_debug_group parse_label_table
debug_kept h [] k x = k
debug_kept h (l ∷ ls) k x =
    let b = bar_all Text (l ∷ ls) x in
    gives_need _ (All Text) 27 (split_at_bar (l ∷ ls)).after _ b.1 λ after y.
    gives_need _ (All Text) 27 (up_to_bar after) _ (up_to_all Text after y) λ rows z.
    gives_bind _ TextKept (parse_label_table h (split_at_bar (l ∷ ls)).before) _
    (table_kept parse_label_row label_kept (ascii "LABEL" ∷ ascii "INDEX" ∷ []) h (split_at_bar (l ∷ ls)).before k b.0) λ g j.
    lines-kept g rows j z

group_kept : (h : ObjectFile) (g : List ℕ × List (List ℕ)) → TextKept h → All Text g.1 → Gives TextKept (parse_group h g)
unfolding parse_group parse_text_group parse_symbol_group parse_linker_group
group_kept h g k x =
    by_if (Gives TextKept) (eqs g.0 (ascii ".TEXT")) _ _
    (λ _. scan_gives block_at TextKept Text (λ s a xs i _. block-kept s a xs i) h 0 g.1 k x)
    (λ _. by_if (Gives TextKept) (eqs g.0 (ascii ".SYMBOL")) _ _
    (λ _. table_kept parse_symbol_row symbol-kept (ascii "ADDR" ∷ ascii "EXT" ∷ ascii "LABEL" ∷ []) h g.1 k x)
    (λ _. by_if (Gives TextKept) (eqs g.0 (ascii ".LINKER_INFO")) _ _
    (λ _. table_kept parse_linker_row linker-kept (ascii "ADDR" ∷ ascii "LABEL" ∷ []) h g.1 k x)
    (λ _. by_if (Gives TextKept) (eqs g.0 (ascii ".DEBUG")) _ _ (λ _. debug_kept h g.1 k x) (λ _. tt))))

magic-all : (ls : List (List ℕ)) → All Text ls → Gives (All Text) (after_magic ls)
unfolding after_magic
magic-all [] h = tt
magic-all (l ∷ ls) h = gives_ask _ 21 (eqs l (ascii "LC-3 OBJ FILE")) _ λ _. h.1

text-whole : (bs : List ℕ) → Gives Whole (text_object bs)
unfolding text_object ask_all empty_object apart chain
text-whole bs =
    gives_ask _ 20 (is_utf8 bs) _ λ u.
    gives_bind _ (All Text) (after_magic (kept_lines bs)) _ (magic-all (kept_lines bs) (kept-text bs (text_of bs u))) λ ls x.
    let groups : List (List ℕ × List (List ℕ)) = (parts_at (begins_with (ascii ".")) ls).groups in
    gives_ask _ 22 (is_empty (parts_at (begins_with (ascii ".")) ls).before) _ λ _.
    gives_bind _ TextKept (fold_outcome parse_group empty_object groups) _
    (fold_gives parse_group TextKept (λ g. All Text g.1) group_kept empty_object groups (empty_formed Any, refl)
    (groups-all Text (begins_with (ascii ".")) ls x).1)
    λ g k. concluded_formed Any text_questions g k.0
    (gives_ask _ 31 (every (λ l. never_fall l.addresses) g.line_blocks) _ λ n. (k.1, n))

pub text_formed : (bs : List ℕ) (h : ObjectFile) → text_object bs ≡ given h → WellFormed h × InRange h
text_formed bs h e = gives Whole (text_object bs) h (text-whole bs) e

-- so the words read are well formed
pub text-words_formed : (bs ws : List ℕ) → read_text bs ≡ given ws → (h : ObjectFile) × (object_of ws ≡ given h)
unfolding read_text
text-words_formed bs ws e = words_formed (text_object bs) ws (text-whole bs) e
