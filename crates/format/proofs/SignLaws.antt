-- No cell with a leading `+` is read, and none is written (P8). Assumes nothing.
use mathlib.Core.Path.{◌≡◌, refl, sym, ◌∙◌, ap, subst}
use mathlib.Core.Bool.{Bool, true, false, not}
use mathlib.Core.List.{List, [], ◌∷◌, ◌++◌, map, flat_map}
use mathlib.Core.Logic.{◌⊎◌, inl, inr}
use mathlib.Core.Option.{Option, none, some, get_or}
use Prim.Native.Nat.{ℕ, zero, suc, ◌+◌, ◌-◌, ◌*◌, ◌^◌, ◌≤◌}
use native.Mathlib.Omega.{arith}
use lib.ListN.{length, take, drop, replicate}
use lib.Dec.{leb, eqb}
use borrow.Author.Tests.{eqb-true, eqb-false, ne_eqb, lt-ltb}
use Rattle.std.specs.Prelude.{if◌then◌else◌}
use Rattle.format.specs.Basics.{Outcome, refused, given, ◌>>=◌, ask, need, and_then, is_some, all_some, ascii}
use Rattle.format.specs.Basics.{is_empty, every, eqs, begins_with, All}
use Rattle.format.specs.Tokens.{scan_tokens, fold_outcome, parts_at}
use Rattle.format.specs.Sorted.{at_key}
use Rattle.format.specs.Utf8.{is_utf8, trim}
use Rattle.format.specs.ObjectFile.{ObjectFile, block_key}
use Rattle.format.specs.Records.{empty_object, text_questions, concluded}
use Rattle.format.specs.Words.{words_of}
use Rattle.format.specs.TextWriter.{text_file}
use Rattle.format.specs.TextReader.{digit_value, digits_from, parse_number, parse_decimal, hex2u16, maybe_hex2u16, splitn, same_cells}
use Rattle.format.specs.TextReader.{rows_under, block_at, parse_text_group, parse_symbol_row, parse_symbol_group, parse_linker_row, parse_linker_group}
use Rattle.format.specs.TextReader.{parse_label_row, parse_label_table, parse_line_rows, parse_line_table, split_at_bar, up_to_bar}
use Rattle.format.specs.TextReader.{parse_debug_group, parse_group, kept_lines, after_magic, text_object}
use Rattle.format.specs.Calls.{read_text, write_text}
use Rattle.format.specs.Signs.{is_unsigned, column_cells, symbol_cells, linker_cells, label_cells, line_cells, block_cells, debug_cells}
use Rattle.format.specs.Signs.{number_cells, text_cells, NoSignRead, SignRefused, NoSignWritten, ZerosWelcome}
use Rattle.format.proofs.ListLaws.{by_test, both, all_append, every-all}
use Rattle.format.proofs.Outcomes.{by_if, Gives, Holds, Ends, held, anyhow, itself, gives, gives_map, gives_bind, gives_need, gives_ask}
use Rattle.format.proofs.Outcomes.{holds_then, ends_bind, ends-need, ends-ask, ends-map}
use Rattle.format.proofs.WordsOnly.{bind_given, given-same}
use Rattle.format.proofs.NumeralBack.{Numeric, plus_refused, hex_numeric, decimal_numeric, entry_numeric}
use Rattle.format.proofs.TextFormed.{cell}
use Rattle.format.proofs.TripLaws.{stands, text-back}

abbrev Unsigned : List ℕ → Type 0
Unsigned c = is_unsigned c ≡ true

-- NUMBERS

unsigned_empty : Unsigned []
unfolding begins_with ascii
unsigned_empty = refl

unsigned_by : (b : ℕ) (bs : List ℕ) → (0x2B ≡ b → ⊥) → Unsigned (b ∷ bs)
unfolding begins_with ascii
unsigned_by b bs ne = rw (ne_eqb 0x2B b ne)

number_unsigned : (base limit : ℕ) (bs : List ℕ) → base ≤ 16 → Holds (λ _. Unsigned bs) (parse_number base limit bs)
number_unsigned base limit [] h = held (parse_number base limit []) unsigned_empty
number_unsigned base limit (b ∷ bs) h =
    by_test (eqb 0x2B b)
    (λ t. let e : parse_number base limit (b ∷ bs) ≡ none =
    ap (λ (x : ℕ). parse_number base limit (x ∷ bs)) (sym (eqb-true 0x2B b t)) ∙ plus_refused base limit bs h in
    subst (Holds (λ _. Unsigned (b ∷ bs))) (sym e) tt)
    (λ t. held (parse_number base limit (b ∷ bs)) (unsigned_by b bs (eqb-false 0x2B b t)))

decimal_unsigned : (limit : ℕ) (bs : List ℕ) → Holds (λ _. Unsigned bs) (parse_decimal limit bs)
decimal_unsigned limit bs = number_unsigned 10 limit bs (omega arith)

hex_unsigned : (bs : List ℕ) → Holds (λ _. Unsigned bs) (hex2u16 bs)
unfolding hex2u16
hex_unsigned bs =
    by_if (Holds (λ _. Unsigned bs)) (eqb (length bs) 4) _ _ (λ _. number_unsigned 16 (2 ^ 16) bs (omega arith)) (λ _. tt)

unknown_unsigned : (bs : List ℕ) → eqs bs (ascii "????") ≡ true → Unsigned bs
unfolding eqs ascii
unknown_unsigned [] e = unsigned_empty
unknown_unsigned (b ∷ bs) e =
    let q = eqb-true b 63 (both (eqb b 63) (eqs bs (63 ∷ 63 ∷ 63 ∷ [])) e).0 in unsigned_by b bs (λ p. omega (arith, p, q))

entry_unsigned : (bs : List ℕ) → Holds (λ _. Unsigned bs) (maybe_hex2u16 bs)
unfolding maybe_hex2u16
entry_unsigned bs =
    by_if (Holds (λ _. Unsigned bs)) (eqs bs (ascii "????")) _ _ (λ e. unknown_unsigned bs e)
    (λ _. holds_then (λ _. Unsigned bs) (λ _. Unsigned bs) (hex2u16 bs) _ (hex_unsigned bs) λ v p. p)

entries_unsigned : (ls : List (List ℕ)) → Holds (λ _. All Unsigned ls) (all_some maybe_hex2u16 ls)
unfolding all_some
entries_unsigned [] = tt
entries_unsigned (l ∷ ls) =
    holds_then (λ _. All Unsigned (l ∷ ls)) (λ _. Unsigned l) (maybe_hex2u16 l) _ (entry_unsigned l) λ w p.
    holds_then (λ _. All Unsigned (l ∷ ls)) (λ _. All Unsigned ls) (all_some maybe_hex2u16 ls) _ (entries_unsigned ls) λ ws q. (p, q)

-- BY WHICH NUMBER

never : (cells : List (List ℕ)) → All Unsigned cells → every is_unsigned cells ≡ false → ⊥
never cells p f = let e = every-all is_unsigned cells p in let q : true ≡ false = sym e ∙ f in let z : ◌≡◌ {A = ℕ} 0 1 = cc in omega arith

module _ {B : Type 0} (m : ℕ) where
  -- by m, unless it is so
  abbrev Stops : Type 0 → Outcome B → Type 0
  Stops P = Ends (λ n. (n ≡ m) ⊎ P) P

  stops : (P : Type 0) (o : Outcome B) → Ends (λ n. n ≡ m) P o → Stops P o
  stops P (refused n) h = inl h
  stops P (given b) h = h

  stops_known : (P : Type 0) (o : Outcome B) → P → Stops P o
  stops_known P (refused n) p = inr p
  stops_known P (given b) p = p

  -- whatever is asked after it
  stops_then : {A : Type 0} (P : Type 0) (o : Outcome A) (f : A → Outcome B) → Ends (λ n. n ≡ m) P o → Stops P (o >>= f)
  stops_then P (refused n) f h = inl h
  stops_then P (given a) f h = stops_known P (f a) h

  stopped : (cells : List (List ℕ)) (o : Outcome B) → Stops (All Unsigned cells) o → every is_unsigned cells ≡ false → o ≡ refused m
  stopped cells (refused n) (inl e) f = ap (λ (x : ℕ). refused x) e
  stopped cells (refused n) (inr p) f = absurd (never cells p f)
  stopped cells (given b) p f = absurd (never cells p f)

  stops_given : (P : Type 0) (o : Outcome B) → Stops P o → Gives (λ _. P) o
  stops_given P (refused n) h = tt
  stops_given P (given b) h = h

-- TABLES

-- the first two cells of three
abbrev first_two : List ℕ → List (List ℕ)
first_two l = cell 2 0 l ∷ cell 2 1 l ∷ []

symbol-row : (h : ObjectFile) (l : List ℕ) → Ends (λ n. n ≡ 26) (All Unsigned (first_two l)) (parse_symbol_row h l)
unfolding parse_symbol_row
symbol-row h l =
    ends-need _ _ (λ _. Unsigned (cell 2 0 l)) 26 (hex2u16 (cell 2 0 l)) _ refl (hex_unsigned (cell 2 0 l)) λ a p.
    ends-need _ _ (λ _. Unsigned (cell 2 1 l)) 26 (parse_decimal (2 ^ 8) (cell 2 1 l)) _ refl (decimal_unsigned (2 ^ 8) (cell 2 1 l)) λ e q.
    (p, (q, tt))

linker-row : (h : ObjectFile) (l : List ℕ) → Ends (λ n. n ≡ 26) (All Unsigned (cell 1 0 l ∷ [])) (parse_linker_row h l)
unfolding parse_linker_row
linker-row h l = ends-need _ _ (λ _. Unsigned (cell 1 0 l)) 26 (hex2u16 (cell 1 0 l)) _ refl (hex_unsigned (cell 1 0 l)) λ a p. (p, tt)

label-row : (h : ObjectFile) (l : List ℕ) → Ends (λ n. n ≡ 26) (All Unsigned (cell 1 1 l ∷ [])) (parse_label_row h l)
unfolding parse_label_row
label-row h l =
    ends-need _ _ (λ _. Unsigned (cell 1 1 l)) 26 (parse_decimal (2 ^ 64) (cell 1 1 l)) _ refl (decimal_unsigned (2 ^ 64) (cell 1 1 l)) λ i p.
    (p, tt)

-- the rows under a header
rows-ends :
    {B : Type 0} (R : ℕ → Type 0) (P : Type 0) (n : ℕ) (columns ls : List (List ℕ)) (f : List (List ℕ) → Outcome B) → R n → Ends R P (f (drop 1 ls))
    → Ends R P (rows_under n columns ls >>= f)
unfolding rows_under
rows-ends R P n columns [] f r h = h
rows-ends R P n columns (l ∷ ls) f r h = go (same_cells (map trim (splitn (length columns - 1) l)) columns)
  where
    go : (t : Bool) → Ends R P (ask n t >>= (λ _. given ls) >>= f)
    go true = h
    go false = r

-- a row at a time
fold_ends :
    (n : ℕ) (cells : List ℕ → List (List ℕ)) (one : ObjectFile → List ℕ → Outcome ObjectFile)
    → ((h : ObjectFile) (l : List ℕ) → Ends (λ m. m ≡ n) (All Unsigned (cells l)) (one h l))
    → (h : ObjectFile) (ls : List (List ℕ)) → Ends (λ m. m ≡ n) (All Unsigned (flat_map cells ls)) (fold_outcome one h ls)
unfolding fold_outcome flat_map
fold_ends n cells one row h [] = tt
fold_ends n cells one row h (l ∷ ls) =
    ends_bind (λ m. m ≡ n) _ (All Unsigned (cells l)) (one h l) _ (row h l) λ g p.
    ends-map (λ m. m ≡ n) _ (All Unsigned (flat_map cells ls)) (λ q. all_append Unsigned (cells l) (flat_map cells ls) p q) (fold_outcome one g ls) (fold_ends n cells one row g ls)

symbol_table_lem : (h : ObjectFile) (ls : List (List ℕ)) → Stops 26 (All Unsigned (symbol_cells ls)) (parse_symbol_group h ls)
unfolding parse_symbol_group column_cells
symbol_table_lem h ls = stops 26 _ (parse_symbol_group h ls) (rows-ends _ _ 26 _ ls _ refl (fold_ends 26 _ parse_symbol_row symbol-row h (drop 1 ls)))

linker_table_lem : (h : ObjectFile) (ls : List (List ℕ)) → Stops 26 (All Unsigned (linker_cells ls)) (parse_linker_group h ls)
unfolding parse_linker_group column_cells
linker_table_lem h ls = stops 26 _ (parse_linker_group h ls) (rows-ends _ _ 26 _ ls _ refl (fold_ends 26 _ parse_linker_row linker-row h (drop 1 ls)))

label_table_lem : (h : ObjectFile) (ls : List (List ℕ)) → Stops 26 (All Unsigned (label_cells ls)) (parse_label_table h ls)
unfolding parse_label_table column_cells
label_table_lem h ls = stops 26 _ (parse_label_table h ls) (rows-ends _ _ 26 _ ls _ refl (fold_ends 26 _ parse_label_row label-row h (drop 1 ls)))

line-rows : (i : ℕ) (ls : List (List ℕ)) → Ends (λ n. n ≡ 28) (All Unsigned (flat_map first_two ls)) (parse_line_rows i ls)
unfolding parse_line_rows flat_map
line-rows i [] = tt
line-rows i (l ∷ ls) =
    ends-need _ _ (λ _. Unsigned (cell 2 0 l)) 28 (parse_decimal (2 ^ 64) (cell 2 0 l)) _ refl (decimal_unsigned (2 ^ 64) (cell 2 0 l)) λ n p.
    ends-ask _ _ 28 (eqb n i) _ refl
    (ends-need _ _ (λ _. Unsigned (cell 2 1 l)) 28 (maybe_hex2u16 (cell 2 1 l)) _ refl (entry_unsigned (cell 2 1 l)) λ a q.
    ends_bind _ _ (All Unsigned (flat_map first_two ls)) (parse_line_rows (suc i) ls) _ (line-rows (suc i) ls) λ rows r. (p, (q, r)))

line_table_lem : (h : ObjectFile) (ls : List (List ℕ)) → Stops 28 (All Unsigned (line_cells ls)) (parse_line_table h ls)
unfolding parse_line_table column_cells
line_table_lem h ls =
    rows-ends _ _ 28 _ ls _ (inl refl)
    (stops_then 28 _ (parse_line_rows 0 (drop 1 ls)) _ (line-rows 0 (drop 1 ls)))

-- BLOCKS

block_stops : (h : ObjectFile) (ls : List (List ℕ)) → Stops 24 (All Unsigned (block_cells ls)) (block_at h ls)
unfolding block_at block_cells
block_stops h [] = inl refl
block_stops h (l ∷ []) = inl refl
block_stops h (l ∷ c ∷ ls) =
    ends-need _ _ (λ _. Unsigned l) 24 (hex2u16 l) _ (inl refl) (hex_unsigned l) λ a p.
    ends-need _ _ (λ n. parse_decimal (2 ^ 16) c ≡ some n) 24 (parse_decimal (2 ^ 16) c) _ (inl refl) (itself (parse_decimal (2 ^ 16) c)) λ n e.
    ends-ask _ _ 24 (leb n (length ls)) _ (inl refl)
    (ends-need _ _ (λ _. All Unsigned (take n ls)) 24 (all_some maybe_hex2u16 (take n ls)) _ (inl refl) (entries_unsigned (take n ls)) λ ws r.
    let q : Unsigned c = read_unsigned c n e in
    let t : All Unsigned (take (get_or (parse_decimal (2 ^ 16) c) 0) ls) = subst (λ (o : Option ℕ). All Unsigned (take (get_or o 0) ls)) (sym e) r in
    let all : All Unsigned (block_cells (l ∷ c ∷ ls)) = (p, (q, t)) in
    ends-ask _ _ 25 (not (is_some (at_key block_key (a ∷ []) h.blocks))) _ (inr all) all)
  where
    read_unsigned : (c : List ℕ) (n : ℕ) → parse_decimal (2 ^ 16) c ≡ some n → Unsigned c
    read_unsigned c n e = subst (Holds (λ _. Unsigned c)) e (decimal_unsigned (2 ^ 16) c)

pub sign_refused : SignRefused
sign_refused = record {
  block = λ h ls. stopped 24 (block_cells ls) (block_at h ls) (block_stops h ls);
  symbol = λ h ls. stopped 26 (symbol_cells ls) (parse_symbol_group h ls) (symbol_table_lem h ls);
  linker = λ h ls. stopped 26 (linker_cells ls) (parse_linker_group h ls) (linker_table_lem h ls);
  label = λ h ls. stopped 26 (label_cells ls) (parse_label_table h ls) (label_table_lem h ls);
  line = λ h ls. stopped 28 (line_cells ls) (parse_line_table h ls) (line_table_lem h ls);
}

-- WHOLE TEXTS

-- .TEXT: a block that is read ends where the next one begins
block_unsigned : (h : ObjectFile) (l : List ℕ) (ls : List (List ℕ)) → Gives (λ t. All Unsigned (l ∷ take t.1 ls)) (block_at h (l ∷ ls))
unfolding block_at
block_unsigned h l [] = tt
block_unsigned h l (c ∷ ls) =
    gives_need _ (λ _. Unsigned l) 24 (hex2u16 l) _ (hex_unsigned l) λ a p.
    gives_need _ (λ _. Unsigned c) 24 (parse_decimal (2 ^ 16) c) _ (decimal_unsigned (2 ^ 16) c) λ n q.
    gives_ask _ 24 (leb n (length ls)) _ λ _.
    gives_need _ (λ _. All Unsigned (take n ls)) 24 (all_some maybe_hex2u16 (take n ls)) _ (entries_unsigned (take n ls)) λ ws r.
    gives_ask _ 25 (not (is_some (at_key block_key (a ∷ []) h.blocks))) _ λ _. (p, (q, r))

blocks_unsigned : (h : ObjectFile) (k : ℕ) (ls : List (List ℕ)) → All Unsigned (take k ls) → Gives (λ _. All Unsigned ls) (scan_tokens block_at h k ls)
unfolding scan_tokens
blocks_unsigned h k [] a = tt
blocks_unsigned h (suc k) (l ∷ ls) a =
    gives_map (λ _. All Unsigned ls) (λ _. All Unsigned (l ∷ ls)) (λ _ q. (a.0, q)) (scan_tokens block_at h k ls) (blocks_unsigned h k ls a.1)
blocks_unsigned h zero (l ∷ ls) a =
    gives_bind _ (λ t. All Unsigned (l ∷ take t.1 ls)) (block_at h (l ∷ ls)) _ (block_unsigned h l ls) λ t p.
    gives_map (λ _. All Unsigned ls) (λ _. All Unsigned (l ∷ ls)) (λ _ q. (p.0, q)) (scan_tokens block_at t.0 t.1 ls)
    (blocks_unsigned t.0 t.1 ls p.1)

debug_unsigned : (h : ObjectFile) (ls : List (List ℕ)) → Gives (λ _. All Unsigned (debug_cells ls)) (parse_debug_group h ls)
unfolding parse_debug_group debug_cells split_at_bar column_cells flat_map
debug_unsigned h [] = tt
debug_unsigned h (l ∷ ls) = tables (split_at_bar (l ∷ ls)).before (split_at_bar (l ∷ ls)).after
  where
    tables : (before : List (List ℕ)) (after : Option (List (List ℕ)))
        → Gives (λ _. All Unsigned (label_cells before ++ line_cells (get_or (and_then after up_to_bar) [])))
        (need 27 after >>= λ a. need 27 (up_to_bar a) >>= λ rows. parse_label_table h before >>= λ g. parse_line_table g rows)
    tables before none = tt
    tables before (some a) = rest (up_to_bar a)
      where
        rest : (o : Option (List (List ℕ)))
            → Gives (λ _. All Unsigned (label_cells before ++ line_cells (get_or o [])))
            (need 27 o >>= λ rows. parse_label_table h before >>= λ g. parse_line_table g rows)
        rest none = tt
        rest (some rows) =
            gives_bind _ (λ _. All Unsigned (label_cells before)) (parse_label_table h before) _
            (stops_given 26 _ (parse_label_table h before) (label_table_lem h before)) λ g p.
            gives_map (λ _. All Unsigned (line_cells rows)) (λ _. All Unsigned (label_cells before ++ line_cells rows))
            (λ _ q. all_append Unsigned (label_cells before) (line_cells rows) p q) (parse_line_table g rows)
            (stops_given 28 _ (parse_line_table g rows) (line_table_lem g rows))

-- two choices by one test
both_ways :
    {A B : Type 0} (P : A → B → Type 0) (t : Bool) (a c : A) (b d : B) → P a b → P c d → P (if t then a else c) (if t then b else d)
both_ways P true a c b d p q = p
both_ways P false a c b d p q = q

abbrev Clean : Outcome ObjectFile → List (List ℕ) → Type 0
Clean o cells = Gives (λ _. All Unsigned cells) o

group_unsigned : (h : ObjectFile) (g : List ℕ × List (List ℕ)) → Clean (parse_group h g) (number_cells g)
unfolding parse_group number_cells parse_text_group
group_unsigned h g =
    both_ways Clean (eqs g.0 (ascii ".TEXT")) _ _ _ _ (blocks_unsigned h 0 g.1 tt)
    (both_ways Clean (eqs g.0 (ascii ".SYMBOL")) _ _ _ _ (stops_given 26 _ (parse_symbol_group h g.1) (symbol_table_lem h g.1))
    (both_ways Clean (eqs g.0 (ascii ".LINKER_INFO")) _ _ _ _ (stops_given 26 _ (parse_linker_group h g.1) (linker_table_lem h g.1))
    (both_ways Clean (eqs g.0 (ascii ".DEBUG")) _ _ _ _ (debug_unsigned h g.1) tt)))

groups_unsigned : (h : ObjectFile) (gs : List (List ℕ × List (List ℕ))) → Clean (fold_outcome parse_group h gs) (flat_map number_cells gs)
unfolding fold_outcome flat_map
groups_unsigned h [] = tt
groups_unsigned h (g ∷ gs) =
    gives_bind _ (λ _. All Unsigned (number_cells g)) (parse_group h g) _ (group_unsigned h g) λ k p.
    gives_map (λ _. All Unsigned (flat_map number_cells gs)) (λ _. All Unsigned (number_cells g ++ flat_map number_cells gs))
    (λ _ q. all_append Unsigned (number_cells g) (flat_map number_cells gs) p q) (fold_outcome parse_group k gs) (groups_unsigned k gs)

magic-rest : (ls : List (List ℕ)) → Gives (λ r. r ≡ drop 1 ls) (after_magic ls)
unfolding after_magic
magic-rest [] = tt
magic-rest (l ∷ ls) = gives_ask _ 21 (eqs l (ascii "LC-3 OBJ FILE")) _ λ _. refl

text_unsigned : (bs : List ℕ) → Gives (λ _. All Unsigned (text_cells bs)) (text_object bs)
unfolding text_object text_cells
text_unsigned bs =
    gives_ask _ 20 (is_utf8 bs) _ λ _.
    gives_bind _ (λ ls. ls ≡ drop 1 (kept_lines bs)) (after_magic (kept_lines bs)) _ (magic-rest (kept_lines bs)) λ ls e.
    let P : List (List ℕ) → Type 0 = λ x. All Unsigned (flat_map number_cells (parts_at (begins_with (ascii ".")) x).groups) in
    gives_ask _ 22 (is_empty (parts_at (begins_with (ascii ".")) ls).before) _ λ _.
    gives_bind _ (λ _. P ls) (fold_outcome parse_group empty_object (parts_at (begins_with (ascii ".")) ls).groups) _
    (groups_unsigned empty_object (parts_at (begins_with (ascii ".")) ls).groups) λ h p. anyhow (concluded text_questions h) (subst P e p)

pub no_sign_read : NoSignRead
unfolding read_text
no_sign_read bs ws e =
    let p = bind_given (text_object bs) (λ h. given (words_of h)) ws e in
    every-all is_unsigned (text_cells bs) (gives (λ _. All Unsigned (text_cells bs)) (text_object bs) p.0 (text_unsigned bs) p.1)

-- WHAT IS WRITTEN

numeric_unsigned : (ds : List ℕ) → All Numeric ds → Unsigned ds
numeric_unsigned [] a = unsigned_empty
numeric_unsigned (d ∷ ds) a = unsigned_by d ds (λ q. omega (arith, q, a.0.0))

pub no_sign_written : NoSignWritten
unfolding write_text
no_sign_written = record {
  decimals = λ n h. numeric_unsigned _ (decimal_numeric n h).0;
  addresses = λ v. numeric_unsigned _ (hex_numeric v);
  entries = λ w. numeric_unsigned _ (entry_numeric w);
  texts = λ ws bs n f e.
      let h = f.object in
      let b : text_file h ≡ bs = given-same (sym (rw f.well_formed) ∙ e) in
      let r = text-back ws h (stands ws h (omega arith) f.well_formed f.parts) in
      subst (λ (x : List ℕ). every is_unsigned (text_cells x) ≡ true) b (no_sign_read (text_file h) (words_of h) r);
}

-- LEADING ZEROS

zeros_from : (k base : ℕ) (bs : List ℕ) → 1 ≤ base → digits_from base 0 (replicate k 0x30 ++ bs) ≡ digits_from base 0 bs
unfolding digits_from digit_value
zeros_from zero base bs h = refl
zeros_from (suc k) base bs h =
    let e : 0 * base + 0 ≡ 0 = omega arith in
    rw (lt-ltb 0 base h) (ap (λ (n : ℕ). digits_from base n (replicate k 0x30 ++ bs)) e ∙ zeros_from k base bs h)

pub zeros_welcome : ZerosWelcome
unfolding parse_number is_empty
zeros_welcome zero base limit bs h f = refl
zeros_welcome (suc k) base limit bs h f = rw (f, zeros_from (suc k) base bs h)
