-- Reading the text form (document 01, "Text form (000)", questions 20 to 31). Texts, lines and cells are bytes. Assumes nothing.
use Rattle.std.specs.Prelude.{Bool, true, false, ◌&&◌, not, ℕ, zero, suc, ◌+◌, ◌-◌, ◌*◌, ◌^◌, length, take, drop, get_or, leb, ltb, eqb, if◌then◌else◌}
use mathlib.Core.List.{List, [], ◌∷◌, ◌++◌, map, flat_map}
use Rattle.std.proofs.Math.Option.{Option, none, some}
use Rattle.format.specs.Basics.{Outcome, refused, given, ◌>>=◌, ask, need, and_then, is_some, ascii}
use Rattle.format.specs.Basics.{is_empty, keep, all_some, eqs, begins_with}
use Rattle.format.specs.Tokens.{tokens, scan_tokens, fold_outcome, parts_at}
use Rattle.format.specs.Sorted.{at_key}
use Rattle.format.specs.Utf8.{is_utf8, is_scalar, encode_scalar, is_between, is_blank, trim}
use Rattle.format.specs.ObjectFile.{LineBlock, ObjectFile, block_key}
use Rattle.format.specs.Records.{block, label, relocation, put_record, empty_object, with_lines, label_named, text_questions, concluded}

-- LINES

-- an element in front of the first list
unfoldable pub on_first : {A : Type 0} → A → List (List A) → List (List A)
on_first a [] = (a ∷ []) ∷ []
on_first a (l ∷ ls) = (a ∷ l) ∷ ls

-- "split as `str::lines`": a line ends at LF or at CR LF, and the last may go without
unfoldable pub lines : List ℕ → List (List ℕ)
lines [] = []
lines (b ∷ bs) =
    if eqb b 0x0A then [] ∷ lines bs
    else if eqb b 0x0D && begins_with (0x0A ∷ []) bs then lines bs
    else on_first b (lines bs)

-- "Trim the file by White_Space, split as `str::lines`, drop lines beginning `#` and blank ones."
unfoldable pub kept_lines : List ℕ → List (List ℕ)
kept_lines bs = keep (λ l. not (begins_with (ascii "#") l) && not (is_blank l)) (lines (trim bs))

-- NUMBERS

-- the value of a digit in a base up to 16, of either case
unfoldable pub digit_value : ℕ → ℕ → Option ℕ
digit_value base b =
    let d = if is_between 48 57 b then b - 48 else if is_between 65 70 b then b - 55 else if is_between 97 102 b then b - 87 else 16 in
    if ltb d base then some d else none

-- the value of digits after those that gave n
unfoldable pub digits_from : ℕ → ℕ → List ℕ → Option ℕ
digits_from base n [] = some n
digits_from base n (b ∷ bs) = and_then (digit_value base b) λ d. digits_from base (n * base + d) bs

abbrev pub below_limit : ℕ → Option ℕ → Option ℕ  -- "must fit"
below_limit limit none = none
below_limit limit (some n) = if ltb n limit then some n else none

-- at least one digit, and digits alone: "Hex and decimal cells with a leading `+` are now refused" (P8); "must fit"
unfoldable pub parse_number : ℕ → ℕ → List ℕ → Option ℕ
parse_number base limit bs = if is_empty bs then none else below_limit limit (digits_from base 0 bs)

-- "Hex is four bytes"
unfoldable pub hex2u16 : List ℕ → Option ℕ
hex2u16 bs = if eqb (length bs) 4 then parse_number 16 (2 ^ 16) bs else none

-- "decimals may carry .. leading zeros, and must fit"
abbrev pub parse_decimal : ℕ → List ℕ → Option ℕ
parse_decimal limit bs = parse_number 10 limit bs

-- a word or an address, or ????
unfoldable pub maybe_hex2u16 : List ℕ → Option (Option ℕ)
maybe_hex2u16 bs = if eqs bs (ascii "????") then some none else and_then (hex2u16 bs) λ v. some (some v)

-- TABLES

-- what stands before the first divider, and what after it
unfoldable pub split_once : List ℕ → Option (List ℕ × List ℕ)
split_once [] = none
split_once (b ∷ bs) =
    if begins_with (ascii " | ") (b ∷ bs) then some ([], drop 3 (b ∷ bs)) else and_then (split_once bs) λ p. some (b ∷ p.0, p.1)

abbrev pub first_cell : List ℕ → (List ℕ → List (List ℕ)) → Option (List ℕ × List ℕ) → List (List ℕ)  -- the first cell, and more of the rest
first_cell bs more none = bs ∷ []
first_cell bs more (some p) = p.0 ∷ more p.1

-- "Cells split at ` | ` as `splitn`": cut at most k times, so the last cell keeps later dividers
unfoldable pub splitn : ℕ → List ℕ → List (List ℕ)
splitn zero bs = bs ∷ []
splitn (suc k) bs = first_cell bs (λ rest. splitn k rest) (split_once bs)

-- "missing cells are empty"
abbrev pub cell_at : ℕ → List (List ℕ) → List ℕ
cell_at i cs = get_or cs i []

unfoldable pub same_cells : List (List ℕ) → List (List ℕ) → Bool  -- equal cell by cell
same_cells [] [] = true
same_cells [] (y ∷ ys) = false
same_cells (x ∷ xs) [] = false
same_cells (x ∷ xs) (y ∷ ys) = eqs x y && same_cells xs ys

-- a table's rows: its lines after a header with these columns; n is its number. "A table without lines is read as empty."
unfoldable pub rows_under : ℕ → List (List ℕ) → List (List ℕ) → Outcome (List (List ℕ))
rows_under n columns [] = given []
rows_under n columns (l ∷ ls) = ask n (same_cells (map trim (splitn (length columns - 1) l)) columns) >>= λ _. given ls

-- .TEXT, "block by block: address, count and all entries read? 24", "That block's address new in the file? 25": the block that the lines
-- begin with, and how many lines it has after its first; "count u16"
unfoldable pub block_at : ObjectFile → List (List ℕ) → Outcome (ObjectFile × ℕ)
block_at h [] = refused 24
block_at h (l ∷ []) = refused 24
block_at h (l ∷ c ∷ ls) = do
  a ← need 24 (hex2u16 l)
  n ← need 24 (parse_decimal (2 ^ 16) c)
  _ ← ask 24 (leb n (length ls))
  ws ← need 24 (all_some maybe_hex2u16 (take n ls))
  _ ← ask 25 (not (is_some (at_key block_key (a ∷ []) h.blocks)))
  given (put_record h (block (record { address = a; words = ws })), suc n)

unfoldable pub parse_text_group : ObjectFile → List (List ℕ) → Outcome ObjectFile  -- .TEXT, 24 and 25
parse_text_group h ls = scan_tokens block_at h 0 ls

-- .SYMBOL, 26: "headers and all cells but SOURCE are trimmed"; "EXT u8 (nonzero is external)". "Later rows set their own fields".
unfoldable pub parse_symbol_row : ObjectFile → List ℕ → Outcome ObjectFile
parse_symbol_row h l = do
  let cs = splitn 2 l
  a ← need 26 (hex2u16 (trim (cell_at 0 cs)))
  e ← need 26 (parse_decimal (2 ^ 8) (trim (cell_at 1 cs)))
  let name = trim (cell_at 2 cs)
  given (put_record h (label (record { name = name; address = a; external = not (eqb e 0); start = (label_named name h.labels).start })))

unfoldable pub parse_symbol_group : ObjectFile → List (List ℕ) → Outcome ObjectFile  -- .SYMBOL, 26
parse_symbol_group h ls = rows_under 26 (ascii "ADDR" ∷ ascii "EXT" ∷ ascii "LABEL" ∷ []) ls >>= λ rows. fold_outcome parse_symbol_row h rows

-- .LINKER_INFO, 26
unfoldable pub parse_linker_row : ObjectFile → List ℕ → Outcome ObjectFile
parse_linker_row h l = do
  let cs = splitn 1 l
  a ← need 26 (hex2u16 (trim (cell_at 0 cs)))
  given (put_record h (relocation (record { address = a; name = trim (cell_at 1 cs) })))

unfoldable pub parse_linker_group : ObjectFile → List (List ℕ) → Outcome ObjectFile  -- .LINKER_INFO, 26
parse_linker_group h ls = rows_under 26 (ascii "ADDR" ∷ ascii "LABEL" ∷ []) ls >>= λ rows. fold_outcome parse_linker_row h rows

-- .DEBUG, its label table, 26: "INDEX .. u64"
unfoldable pub parse_label_row : ObjectFile → List ℕ → Outcome ObjectFile
parse_label_row h l = do
  let cs = splitn 1 l
  let name = trim (cell_at 0 cs)
  i ← need 26 (parse_decimal (2 ^ 64) (trim (cell_at 1 cs)))
  let old = label_named name h.labels
  given (put_record h (label (record { name = name; address = old.address; external = old.external; start = i })))

unfoldable pub parse_label_table : ObjectFile → List (List ℕ) → Outcome ObjectFile  -- 26
parse_label_table h ls = rows_under 26 (ascii "LABEL" ∷ ascii "INDEX" ∷ []) ls >>= λ rows. fold_outcome parse_label_row h rows

-- .DEBUG, its line table, "header and rows read, line numbers 0, 1, 2 ..? 28": from row i on, the address and the untrimmed SOURCE cell
unfoldable pub parse_line_rows : ℕ → List (List ℕ) → Outcome (List (Option ℕ × List ℕ))
parse_line_rows i [] = given []
parse_line_rows i (l ∷ ls) = do
  let cs = splitn 2 l
  n ← need 28 (parse_decimal (2 ^ 64) (trim (cell_at 0 cs)))
  _ ← ask 28 (eqb n i)
  a ← need 28 (maybe_hex2u16 (trim (cell_at 1 cs)))
  rows ← parse_line_rows (suc i) ls
  given ((a, cell_at 2 cs) ∷ rows)

-- "Line runs are maximal stretches with an address; a run reaching the last row is dropped, unchecked": the run before row i, and the rows
unfoldable pub runs_from : ℕ → List ℕ → List (Option ℕ) → List LineBlock
runs_from i run [] = []
runs_from i run (some a ∷ rows) = runs_from (suc i) (run ++ a ∷ []) rows
runs_from i [] (none ∷ rows) = runs_from (suc i) [] rows
runs_from i (a ∷ run) (none ∷ rows) = record { first = i - length (a ∷ run); addresses = a ∷ run } ∷ runs_from (suc i) [] rows

-- "`unescaper::unescape` is replaced .. by this: those six, and `\u{1 to 6 hex digits}` of a scalar value; other backslashes refuse" (30).
-- How many hex digits a text begins with:
unfoldable pub hex_digits : List ℕ → ℕ
hex_digits [] = 0
hex_digits (b ∷ bs) = if is_some (digit_value 16 b) then suc (hex_digits bs) else 0

abbrev pub scalar_of : Option ℕ → Outcome ℕ  -- "of a scalar value"
scalar_of none = refused 30
scalar_of (some c) = if is_scalar c then given c else refused 30

-- from what follows the u: the bytes of the scalar value, and how many bytes follow the backslash
unfoldable pub unicode_escape : List ℕ → Outcome (List ℕ × ℕ)
unicode_escape bs = do
  _ ← ask 30 (begins_with (ascii "{") bs)
  let n = hex_digits (drop 1 bs)
  _ ← ask 30 (is_between 1 6 n && begins_with (ascii "}") (drop (1 + n) bs))
  c ← scalar_of (digits_from 16 0 (take n (drop 1 bs)))
  given (encode_scalar c, 1 + (1 + n + 1))

-- what follows a backslash
unfoldable pub after_backslash : List ℕ → Outcome (List ℕ × ℕ)
after_backslash [] = refused 30
after_backslash (b ∷ bs) =
    if begins_with (ascii "t") (b ∷ bs) then given (0x09 ∷ [], 1)
    else if begins_with (ascii "r") (b ∷ bs) then given (0x0D ∷ [], 1)
    else if begins_with (ascii "n") (b ∷ bs) then given (0x0A ∷ [], 1)
    else if begins_with (ascii "'") (b ∷ bs) then given (0x27 ∷ [], 1)
    else if begins_with (ascii "\"") (b ∷ bs) then given (0x22 ∷ [], 1)
    else if begins_with (ascii "\\") (b ∷ bs) then given (0x5C ∷ [], 1)
    else if begins_with (ascii "u") (b ∷ bs) then unicode_escape bs
    else refused 30

-- asked of a byte that is there
unfoldable pub unescape_at : List ℕ → Outcome (List ℕ × ℕ)
unescape_at [] = refused 30
unescape_at (b ∷ bs) = if eqb b 0x5C then after_backslash bs else given (b ∷ [], 0)

unfoldable pub unescape : List ℕ → Outcome (List ℕ)  -- "Joined source unescapes? 30"
unescape bs = tokens unescape_at 0 bs >>= λ ts. given (flat_map (λ t. t) ts)

-- "If this line table has rows, had none before it? 29", "Joined source unescapes? 30"
unfoldable pub parse_line_table : ObjectFile → List (List ℕ) → Outcome ObjectFile
parse_line_table h ls = do
  rows ← rows_under 28 (ascii "LINE" ∷ ascii "ADDR" ∷ ascii "SOURCE" ∷ []) ls
  parsed ← parse_line_rows 0 rows
  if is_empty parsed then given h else (do
    _ ← ask 29 (not (is_some h.source))
    s ← unescape (flat_map (λ r. r.1) parsed)
    given (with_lines h (runs_from 0 [] (map (λ r. r.0) parsed)) (some s)))

-- GROUPS

-- the lines before the first that begins with =, and those after it
pub record Split : Type 0 where
  pub before : List (List ℕ)
  pub after : Option (List (List ℕ))

abbrev pub in_front : List ℕ → Split → Split  -- a line before the bar
in_front l p = record { before = l ∷ p.before; after = p.after }

abbrev pub is_bar : List ℕ → Bool  -- "a first line beginning `=`"
is_bar l = begins_with (ascii "=") l

unfoldable pub split_at_bar : List (List ℕ) → Split  -- at the first such line
split_at_bar [] = record { before = []; after = none }
split_at_bar (l ∷ ls) = if is_bar l then record { before = []; after = some ls } else in_front l (split_at_bar ls)

-- all but the last line, if that begins with =
unfoldable pub up_to_bar : List (List ℕ) → Option (List (List ℕ))
up_to_bar [] = none
up_to_bar (l ∷ []) = if is_bar l then some [] else none
up_to_bar (l ∷ m ∷ ls) = and_then (up_to_bar (m ∷ ls)) λ ks. some (l ∷ ks)

-- "`.DEBUG` with lines: does a first line beginning `=` exist, the last line begin `=`, and these differ? 27", then the two tables
unfoldable pub parse_debug_group : ObjectFile → List (List ℕ) → Outcome ObjectFile
parse_debug_group h [] = given h
parse_debug_group h (l ∷ ls) = do
  let p = split_at_bar (l ∷ ls)
  after ← need 27 p.after
  rows ← need 27 (up_to_bar after)
  h' ← parse_label_table h p.before
  parse_line_table h' rows

-- "known header? 23"
unfoldable pub parse_group : ObjectFile → List ℕ × List (List ℕ) → Outcome ObjectFile
parse_group h g =
    if eqs g.0 (ascii ".TEXT") then parse_text_group h g.1
    else if eqs g.0 (ascii ".SYMBOL") then parse_symbol_group h g.1
    else if eqs g.0 (ascii ".LINKER_INFO") then parse_linker_group h g.1
    else if eqs g.0 (ascii ".DEBUG") then parse_debug_group h g.1
    else refused 23

-- "First kept line `LC-3 OBJ FILE`? 21": the kept lines after it
unfoldable pub after_magic : List (List ℕ) → Outcome (List (List ℕ))
after_magic [] = refused 21
after_magic (l ∷ ls) = ask 21 (eqs l (ascii "LC-3 OBJ FILE")) >>= λ _. given ls

-- "UTF-8? 20", 21, "Every later kept line in a group? 22" ("A line beginning `.` opens a group"), "Then per group", and the last questions
unfoldable pub text_object : List ℕ → Outcome ObjectFile
text_object bs = do
  _ ← ask 20 (is_utf8 bs)
  ls ← after_magic (kept_lines bs)
  let parts = parts_at (begins_with (ascii ".")) ls
  _ ← ask 22 (is_empty parts.before)
  h ← fold_outcome parse_group empty_object parts.groups
  concluded text_questions h

unfoldable pub open-TextReader : Unit {0}
unfolding on_first lines kept_lines digit_value digits_from parse_number hex2u16 maybe_hex2u16 split_once splitn same_cells rows_under
    block_at parse_text_group parse_symbol_row parse_symbol_group parse_linker_row parse_linker_group parse_label_row parse_label_table parse_line_rows
    runs_from hex_digits unicode_escape after_backslash unescape_at unescape parse_line_table split_at_bar up_to_bar parse_debug_group parse_group
    after_magic text_object
open-TextReader = tt
