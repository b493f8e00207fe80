-- Which numbers a refusal has: question by question those above a given one; of both readers those above 9, so that none is 0, nor 3, which
-- is a buffer's. Assumes nothing.
use mathlib.Core.Path.{◌≡◌, refl, sym, ap}
use mathlib.Core.Bool.{Bool, true, false, not, ◌&&◌}
use mathlib.Core.List.{List, [], ◌∷◌, map, flat_map}
use mathlib.Core.Option.{Option, none, some}
use Prim.Native.Nat.{ℕ, zero, suc, ◌+◌, ◌-◌, ◌*◌, ◌^◌, ◌<◌}
use native.Mathlib.Omega.{arith}
use lib.ListN.{length, take, drop}
use lib.Dec.{leb, eqb}
use Rattle.format.specs.Basics.{Outcome, refused, given, ◌>>=◌, ask, need, all_some, is_some, is_empty, eqs, begins_with, ascii, All}
use Rattle.std.specs.Prelude.{if◌then◌else◌}
use Rattle.format.specs.Tokens.{tokens, scan_tokens, fold_outcome, parts_at}
use Rattle.format.specs.Sorted.{at_key}
use Rattle.format.specs.Utf8.{is_between, is_scalar, is_utf8, trim}
use Rattle.format.specs.ObjectFile.{ObjectFile, block_key, strictly_rise}
use Rattle.format.specs.Records.{Question, binary_questions, text_questions, ask_all, concluded, empty_object, gather_records}
use Rattle.format.specs.Binary.{header, has_bytes, number_at, bytes_at, addresses_from, block_from, label_from, lines_from, source_from}
use Rattle.format.specs.Binary.{relocation_from, record_at, binary_records, binary_object}
use Rattle.format.specs.TextReader.{cell_at, splitn, same_cells, hex2u16, maybe_hex2u16, parse_decimal, rows_under, kept_lines}
use Rattle.format.specs.TextReader.{block_at, parse_text_group, parse_symbol_row, parse_symbol_group, parse_linker_row, parse_linker_group}
use Rattle.format.specs.TextReader.{parse_label_row, parse_label_table, parse_line_rows, parse_line_table, hex_digits, digits_from, scalar_of}
use Rattle.format.specs.TextReader.{unicode_escape, after_backslash, unescape_at, unescape, split_at_bar, up_to_bar, parse_debug_group}
use Rattle.format.specs.TextReader.{parse_group, after_magic, text_object}
use Rattle.format.specs.Calls.{refusal_of, read_binary, read_text}

-- where it is refused, the number is above m
abbrev pub RefusedAbove : {A : Type 0} → ℕ → Outcome A → Type 0
RefusedAbove m (refused n) = m < n
RefusedAbove m (given a) = Unit {0}

-- where it is refused, the number is not 0
abbrev pub Numbered : {A : Type 0} → Outcome A → Type 0
Numbered o = RefusedAbove 0 o

module _ (m : ℕ) {A B : Type 0} where
  pub numbered_bind : (o : Outcome A) (f : A → Outcome B) → RefusedAbove m o → ((a : A) → RefusedAbove m (f a)) → RefusedAbove m (o >>= f)
  numbered_bind (refused n) f h k = h
  numbered_bind (given a) f h k = k a

  pub numbered_need : (n : ℕ) (o : Option A) (f : A → Outcome B) → m < n → ((a : A) → RefusedAbove m (f a)) → RefusedAbove m (need n o >>= f)
  numbered_need n none f h k = h
  numbered_need n (some a) f h k = k a

module _ (m : ℕ) {B : Type 0} where
  pub numbered_ask : (n : ℕ) (t : Bool) (f : Unit {0} → Outcome B) → m < n → RefusedAbove m (f tt) → RefusedAbove m (ask n t >>= f)
  numbered_ask n true f h k = k
  numbered_ask n false f h k = h

  pub numbered_if : (t : Bool) (a b : Outcome B) → RefusedAbove m a → RefusedAbove m b → RefusedAbove m (if t then a else b)
  numbered_if true a b h k = h
  numbered_if false a b h k = k

  pub above_numbered : (o : Outcome B) → RefusedAbove m o → Numbered o
  above_numbered (refused n) h = omega arith
  above_numbered (given b) h = tt

  -- number 0 is given
  pub given_by : (o : Outcome B) → RefusedAbove m o → refusal_of o ≡ 0 → (b : B) × (o ≡ given b)
  given_by (refused n) h e = absurd (omega (arith, h, e))
  given_by (given b) h e = (b, refl)

module _ {B : Type 0} where
  -- another number is refused
  pub refused_by : (o : Outcome B) (n : ℕ) → refusal_of o ≡ n → (n ≡ 0 → ⊥) → o ≡ refused n
  refused_by (refused m) n e ne = ap refused e
  refused_by (given b) n e ne = absurd (ne (sym e))

module _ (m : ℕ) {A B : Type 0} (one : List A → Outcome (B × ℕ)) (step : (xs : List A) → RefusedAbove m (one xs)) where
  pub numbered_tokens : (k : ℕ) (xs : List A) → RefusedAbove m (tokens one k xs)
  unfolding tokens
  numbered_tokens k [] = tt
  numbered_tokens (suc k) (a ∷ xs) = numbered_tokens k xs
  numbered_tokens zero (a ∷ xs) =
      numbered_bind m (one (a ∷ xs)) _ (step (a ∷ xs)) λ t. numbered_bind m (tokens one t.1 xs) _ (numbered_tokens t.1 xs) λ ts. tt

module _ (m : ℕ) {A S : Type 0} (one : S → List A → Outcome (S × ℕ)) (step : (s : S) (xs : List A) → RefusedAbove m (one s xs)) where
  pub numbered_scan : (s : S) (k : ℕ) (xs : List A) → RefusedAbove m (scan_tokens one s k xs)
  unfolding scan_tokens
  numbered_scan s k [] = tt
  numbered_scan s (suc k) (a ∷ xs) = numbered_scan s k xs
  numbered_scan s zero (a ∷ xs) = numbered_bind m (one s (a ∷ xs)) _ (step s (a ∷ xs)) λ t. numbered_scan t.0 t.1 xs

module _ (m : ℕ) {A S : Type 0} (one : S → A → Outcome S) (step : (s : S) (a : A) → RefusedAbove m (one s a)) where
  pub numbered_fold : (s : S) (xs : List A) → RefusedAbove m (fold_outcome one s xs)
  unfolding fold_outcome
  numbered_fold s [] = tt
  numbered_fold s (a ∷ xs) = numbered_bind m (one s a) _ (step s a) λ t. numbered_fold t xs

-- the last questions of a reader
asks : (qs : List Question) (h : ObjectFile) → All (λ q. 9 < q.0) qs → RefusedAbove 9 (ask_all qs h)
unfolding ask_all
asks [] h k = tt
asks (q ∷ qs) h k = numbered_ask 9 q.0 (q.1 h) _ k.0 (asks qs h k.1)

concludes : (qs : List Question) (h : ObjectFile) → All (λ q. 9 < q.0) qs → RefusedAbove 9 (concluded qs h)
unfolding concluded
concludes qs h k = numbered_bind 9 (ask_all qs h) _ (asks qs h k) λ _. tt

-- THE TEXT READER

-- 24, 25
block_numbered : (h : ObjectFile) (ls : List (List ℕ)) → RefusedAbove 9 (block_at h ls)
unfolding block_at
block_numbered h [] = omega arith
block_numbered h (l ∷ []) = omega arith
block_numbered h (l ∷ c ∷ ls) =
    numbered_need 9 24 (hex2u16 l) _ (omega arith) λ a.
    numbered_need 9 24 (parse_decimal (2 ^ 16) c) _ (omega arith) λ n.
    numbered_ask 9 24 (leb n (length ls)) _ (omega arith)
    (numbered_need 9 24 (all_some maybe_hex2u16 (take n ls)) _ (omega arith) λ ws.
    numbered_ask 9 25 (not (is_some (at_key block_key (a ∷ []) h.blocks))) _ (omega arith) tt)

pub text_numbered : (h : ObjectFile) (ls : List (List ℕ)) → RefusedAbove 9 (parse_text_group h ls)
unfolding parse_text_group
text_numbered h ls = numbered_scan 9 block_at block_numbered h 0 ls

-- 26 to 30
numbered_scalar : (o : Option ℕ) → RefusedAbove 9 (scalar_of o)
numbered_scalar none = omega arith
numbered_scalar (some c) = numbered_if 9 (is_scalar c) (given c) (refused 30) tt (omega arith)

numbered_unicode : (bs : List ℕ) → RefusedAbove 9 (unicode_escape bs)
unfolding unicode_escape
numbered_unicode bs =
    numbered_ask 9 30 (begins_with (ascii "{") bs) _ (omega arith)
    (numbered_ask 9 30 (is_between 1 6 (hex_digits (drop 1 bs)) && begins_with (ascii "}") (drop (1 + hex_digits (drop 1 bs)) bs)) _ (omega arith)
    (numbered_bind 9 (scalar_of (digits_from 16 0 (take (hex_digits (drop 1 bs)) (drop 1 bs)))) _
    (numbered_scalar (digits_from 16 0 (take (hex_digits (drop 1 bs)) (drop 1 bs)))) λ c. tt))

numbered_backslash : (bs : List ℕ) → RefusedAbove 9 (after_backslash bs)
unfolding after_backslash
numbered_backslash [] = omega arith
numbered_backslash (b ∷ bs) =
    numbered_if 9 (begins_with (ascii "t") (b ∷ bs)) _ _ tt
    (numbered_if 9 (begins_with (ascii "r") (b ∷ bs)) _ _ tt
    (numbered_if 9 (begins_with (ascii "n") (b ∷ bs)) _ _ tt
    (numbered_if 9 (begins_with (ascii "'") (b ∷ bs)) _ _ tt
    (numbered_if 9 (begins_with (ascii "\"") (b ∷ bs)) _ _ tt
    (numbered_if 9 (begins_with (ascii "\\") (b ∷ bs)) _ _ tt
    (numbered_if 9 (begins_with (ascii "u") (b ∷ bs)) _ _ (numbered_unicode bs) (omega arith)))))))

numbered_byte : (bs : List ℕ) → RefusedAbove 9 (unescape_at bs)
unfolding unescape_at
numbered_byte [] = omega arith
numbered_byte (b ∷ bs) = numbered_if 9 (eqb b 0x5C) _ _ (numbered_backslash bs) tt

pub numbered_unescape : (bs : List ℕ) → RefusedAbove 9 (unescape bs)
unfolding unescape
numbered_unescape bs = numbered_bind 9 (tokens unescape_at 0 bs) _ (numbered_tokens 9 unescape_at numbered_byte 0 bs) λ ts. tt

pub rows_numbered : (n : ℕ) (columns ls : List (List ℕ)) → 9 < n → RefusedAbove 9 (rows_under n columns ls)
unfolding rows_under
rows_numbered n columns [] h = tt
rows_numbered n columns (l ∷ ls) h = numbered_ask 9 n (same_cells (map trim (splitn (length columns - 1) l)) columns) _ h tt

-- a table whose rows are put one after the other
table_numbered :
    (columns : List (List ℕ)) (one : ObjectFile → List ℕ → Outcome ObjectFile) → ((h : ObjectFile) (l : List ℕ) → RefusedAbove 9 (one h l))
    → (h : ObjectFile) (ls : List (List ℕ)) → RefusedAbove 9 (rows_under 26 columns ls >>= λ rows. fold_outcome one h rows)
table_numbered columns one row h ls =
    numbered_bind 9 (rows_under 26 columns ls) _ (rows_numbered 26 columns ls (omega arith)) λ rows. numbered_fold 9 one row h rows

symbol-row : (h : ObjectFile) (l : List ℕ) → RefusedAbove 9 (parse_symbol_row h l)
unfolding parse_symbol_row
symbol-row h l =
    numbered_need 9 26 (hex2u16 (trim (cell_at 0 (splitn 2 l)))) _ (omega arith) λ a.
    numbered_need 9 26 (parse_decimal (2 ^ 8) (trim (cell_at 1 (splitn 2 l)))) _ (omega arith) λ e. tt

linker-row : (h : ObjectFile) (l : List ℕ) → RefusedAbove 9 (parse_linker_row h l)
unfolding parse_linker_row
linker-row h l = numbered_need 9 26 (hex2u16 (trim (cell_at 0 (splitn 1 l)))) _ (omega arith) λ a. tt

label-row : (h : ObjectFile) (l : List ℕ) → RefusedAbove 9 (parse_label_row h l)
unfolding parse_label_row
label-row h l = numbered_need 9 26 (parse_decimal (2 ^ 64) (trim (cell_at 1 (splitn 1 l)))) _ (omega arith) λ i. tt

line-rows : (i : ℕ) (ls : List (List ℕ)) → RefusedAbove 9 (parse_line_rows i ls)
unfolding parse_line_rows
line-rows i [] = tt
line-rows i (l ∷ ls) =
    numbered_need 9 28 (parse_decimal (2 ^ 64) (trim (cell_at 0 (splitn 2 l)))) _ (omega arith) λ n.
    numbered_ask 9 28 (eqb n i) _ (omega arith)
    (numbered_need 9 28 (maybe_hex2u16 (trim (cell_at 1 (splitn 2 l)))) _ (omega arith) λ a.
    numbered_bind 9 (parse_line_rows (suc i) ls) _ (line-rows (suc i) ls) λ rows. tt)

label_table_lem : (h : ObjectFile) (ls : List (List ℕ)) → RefusedAbove 9 (parse_label_table h ls)
unfolding parse_label_table
label_table_lem h ls = table_numbered _ parse_label_row label-row h ls

line_table_lem : (h : ObjectFile) (ls : List (List ℕ)) → RefusedAbove 9 (parse_line_table h ls)
unfolding parse_line_table
line_table_lem h ls =
    numbered_bind 9 (rows_under 28 _ ls) _ (rows_numbered 28 _ ls (omega arith)) λ rows.
    numbered_bind 9 (parse_line_rows 0 rows) _ (line-rows 0 rows) λ parsed.
    numbered_if 9 (is_empty parsed) _ _ tt
    (numbered_ask 9 29 (not (is_some h.source)) _ (omega arith)
    (numbered_bind 9 (unescape (flat_map (λ (r : Option ℕ × List ℕ). r.1) parsed)) _
    (numbered_unescape (flat_map (λ (r : Option ℕ × List ℕ). r.1) parsed)) λ s. tt))

debug_group_lem : (h : ObjectFile) (ls : List (List ℕ)) → RefusedAbove 9 (parse_debug_group h ls)
unfolding parse_debug_group
debug_group_lem h [] = tt
debug_group_lem h (l ∷ ls) =
    numbered_need 9 27 (split_at_bar (l ∷ ls)).after _ (omega arith) λ after.
    numbered_need 9 27 (up_to_bar after) _ (omega arith) λ rows.
    numbered_bind 9 (parse_label_table h (split_at_bar (l ∷ ls)).before) _ (label_table_lem h (split_at_bar (l ∷ ls)).before) λ h'. line_table_lem h' rows

symbol_group : (h : ObjectFile) (ls : List (List ℕ)) → RefusedAbove 9 (parse_symbol_group h ls)
unfolding parse_symbol_group
symbol_group h ls = table_numbered _ parse_symbol_row symbol-row h ls

linker_group : (h : ObjectFile) (ls : List (List ℕ)) → RefusedAbove 9 (parse_linker_group h ls)
unfolding parse_linker_group
linker_group h ls = table_numbered _ parse_linker_row linker-row h ls

group : (h : ObjectFile) (g : List ℕ × List (List ℕ)) → RefusedAbove 9 (parse_group h g)
unfolding parse_group
group h g =
    numbered_if 9 (eqs g.0 (ascii ".TEXT")) _ _ (text_numbered h g.1)
    (numbered_if 9 (eqs g.0 (ascii ".SYMBOL")) _ _ (symbol_group h g.1)
    (numbered_if 9 (eqs g.0 (ascii ".LINKER_INFO")) _ _ (linker_group h g.1)
    (numbered_if 9 (eqs g.0 (ascii ".DEBUG")) _ _ (debug_group_lem h g.1) (omega arith))))

after-magic : (ls : List (List ℕ)) → RefusedAbove 9 (after_magic ls)
unfolding after_magic
after-magic [] = omega arith
after-magic (l ∷ ls) = numbered_ask 9 21 (eqs l (ascii "LC-3 OBJ FILE")) _ (omega arith) tt

text-object : (bs : List ℕ) → RefusedAbove 9 (text_object bs)
unfolding text_object
text-object bs =
    numbered_ask 9 20 (is_utf8 bs) _ (omega arith)
    (numbered_bind 9 (after_magic (kept_lines bs)) _ (after-magic (kept_lines bs)) λ ls.
    let parts = parts_at (begins_with (ascii ".")) ls in
    numbered_ask 9 22 (is_empty parts.before) _ (omega arith)
    (numbered_bind 9 (fold_outcome parse_group empty_object parts.groups) _ (numbered_fold 9 parse_group group empty_object parts.groups) λ h.
    concludes text_questions h (omega arith, tt)))

pub text_above : (bs : List ℕ) → RefusedAbove 9 (read_text bs)
unfolding read_text
text_above bs = numbered_bind 9 (text_object bs) _ (text-object bs) λ h. tt

pub text-read : (bs : List ℕ) → Numbered (read_text bs)
text-read bs = above_numbered 9 (read_text bs) (text_above bs)

-- THE BINARY READER

-- 11 to 14
module _ (bs : List ℕ) where
  numbered_0 : RefusedAbove 9 (block_from bs)
  unfolding block_from
  numbered_0 = numbered_ask 9 12 (has_bytes 4 bs) _ (omega arith) (numbered_ask 9 12 (has_bytes (4 + 3 * number_at 2 2 bs) bs) _ (omega arith) tt)

  numbered_1 : RefusedAbove 9 (label_from bs)
  unfolding label_from
  numbered_1 =
      numbered_ask 9 12 (has_bytes 19 bs) _ (omega arith) (numbered_ask 9 12 (has_bytes (19 + number_at 11 8 bs) bs) _ (omega arith)
      (numbered_ask 9 13 (is_utf8 (bytes_at 19 (number_at 11 8 bs) bs)) _ (omega arith) tt))

  numbered_2 : RefusedAbove 9 (lines_from bs)
  unfolding lines_from
  numbered_2 =
      numbered_ask 9 12 (has_bytes 10 bs) _ (omega arith) (numbered_ask 9 12 (has_bytes (10 + 2 * number_at 8 2 bs) bs) _ (omega arith)
      (numbered_ask 9 14 (strictly_rise (addresses_from (bytes_at 10 (2 * number_at 8 2 bs) bs))) _ (omega arith) tt))

  numbered_3 : RefusedAbove 9 (source_from bs)
  unfolding source_from
  numbered_3 =
      numbered_ask 9 12 (has_bytes 8 bs) _ (omega arith) (numbered_ask 9 12 (has_bytes (8 + number_at 0 8 bs) bs) _ (omega arith)
      (numbered_ask 9 13 (is_utf8 (bytes_at 8 (number_at 0 8 bs) bs)) _ (omega arith) tt))

  numbered_4 : RefusedAbove 9 (relocation_from bs)
  unfolding relocation_from
  numbered_4 =
      numbered_ask 9 12 (has_bytes 10 bs) _ (omega arith) (numbered_ask 9 12 (has_bytes (10 + number_at 2 8 bs) bs) _ (omega arith)
      (numbered_ask 9 13 (is_utf8 (bytes_at 10 (number_at 2 8 bs) bs)) _ (omega arith) tt))

record_numbered : (bs : List ℕ) → RefusedAbove 9 (record_at bs)
unfolding record_at
record_numbered [] = omega arith
record_numbered (k ∷ bs) =
    numbered_if 9 (eqb k 0) _ _ (numbered_0 bs)
    (numbered_if 9 (eqb k 1) _ _ (numbered_1 bs)
    (numbered_if 9 (eqb k 2) _ _ (numbered_2 bs)
    (numbered_if 9 (eqb k 3) _ _ (numbered_3 bs)
    (numbered_if 9 (eqb k 4) _ _ (numbered_4 bs) (omega arith)))))

pub records_numbered : (k : ℕ) (bs : List ℕ) → RefusedAbove 9 (tokens record_at k bs)
records_numbered k bs = numbered_tokens 9 record_at record_numbered k bs

binary-object : (bs : List ℕ) → RefusedAbove 9 (binary_object bs)
unfolding binary_object binary_records
binary-object bs =
    numbered_bind 9 (binary_records bs) _
    (numbered_ask 9 10 (begins_with header bs) _ (omega arith) (records_numbered 0 (drop 7 bs))) λ rs.
    concludes binary_questions (gather_records empty_object rs) (omega arith, tt)

pub binary_above : (bs : List ℕ) → RefusedAbove 9 (read_binary bs)
unfolding read_binary
binary_above bs = numbered_bind 9 (binary_object bs) _ (binary-object bs) λ h. tt

pub binary-read : (bs : List ℕ) → Numbered (read_binary bs)
binary-read bs = above_numbered 9 (read_binary bs) (binary_above bs)
