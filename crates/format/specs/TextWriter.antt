-- Writing the text form (document 01, "Text form (000)"): "Writing follows `serialize` byte for byte." Assumes nothing.
use Rattle.std.specs.Prelude.{Bool, ◌&&◌, not, ℕ, zero, suc, ◌+◌, ◌-◌, ◌/◌, ◌%◌, ◌^◌, max, length, replicate, ltb, eqb, if◌then◌else◌}
use mathlib.Core.List.{List, [], ◌∷◌, ◌++◌, map, reverse, flat_map}
use Rattle.std.proofs.Math.Option.{Option, none, some, get_or}
use Rattle.format.specs.Basics.{given, ◌>>=◌, given_or, and_then, is_some, ascii, is_empty}
use Rattle.format.specs.Digits.{digits_of}
use Rattle.format.specs.Sorted.{upsert, sorted}
use Rattle.format.specs.Utf8.{scalars_of, characters, is_between}
use Rattle.format.specs.ObjectFile.{Block, Label, LineBlock, Relocation, ObjectFile}
use Rattle.format.specs.Words.{flag_bit}
use Rattle.format.specs.Source.{line_count, raw_line_span, span_bytes}

abbrev pub upper_digit : ℕ → ℕ  -- 0 to 9, A to F
upper_digit d = if ltb d 10 then 48 + d else 55 + d

abbrev pub lower_digit : ℕ → ℕ  -- 0 to 9, a to f
lower_digit d = if ltb d 10 then 48 + d else 87 + d

-- {:04X}
unfoldable pub hex4 : ℕ → List ℕ
hex4 v = map upper_digit (reverse (digits_of 4 4 v))

-- the digits of a number to a base, highest first, with no leading zeros, in front of others; the first number says how many divisions may
-- follow, and no caller's number needs more
unfoldable pub numeral : ℕ → ℕ → ℕ → List ℕ → List ℕ
numeral zero base n ds = lower_digit n ∷ ds
numeral (suc k) base n ds = if ltb n base then lower_digit n ∷ ds else numeral k base (n / base) (lower_digit (n % base) ∷ ds)

-- {}, of a number of 64 bits: at most 20 digits
unfoldable pub decimal : ℕ → List ℕ
decimal n = numeral 19 10 n []

abbrev pub spaces : ℕ → List ℕ  -- n spaces
spaces n = replicate n 0x20

-- numbers are filled to the right
abbrev pub to_right : ℕ → List ℕ → List ℕ
to_right width t = spaces (width - length t) ++ t

-- texts are filled to the left, "filled by characters"
abbrev pub to_left : ℕ → List ℕ → List ℕ
to_left width t = t ++ spaces (width - characters t)

-- a line with its newline
abbrev pub text_line : List ℕ → List ℕ
text_line t = t ++ 0x0A ∷ []

-- 000's TABLE_DIV: "Cells split at ` | `"
abbrev pub table_div : List ℕ
table_div = ascii " | "

-- the largest of the numbers, and of another
unfoldable pub widest : {A : Type 0} → (A → ℕ) → ℕ → List A → ℕ
widest f least [] = least
widest f least (x ∷ xs) = max (f x) (widest f least xs)

-- a memory word or an address; 000's TFMT_UNINIT where there is none
abbrev pub memory_text : Option ℕ → List ℕ
memory_text none = ascii "????"
memory_text (some v) = hex4 v

-- .TEXT: address, count, and the words, a line each
unfoldable pub block_lines : Block → List ℕ
block_lines b =
    text_line (hex4 b.address) ++ text_line (decimal (length b.words)) ++ flat_map (λ w. text_line (memory_text w)) b.words

-- .SYMBOL
abbrev pub symbol_header : List ℕ
symbol_header = ascii "ADDR | EXT | LABEL"

abbrev pub symbol_row : Label → List ℕ  -- ADDR, EXT and LABEL
symbol_row m = hex4 m.address ++ table_div ++ to_right 3 (decimal (flag_bit m.external)) ++ table_div ++ m.name

-- labels by address, then name: names differ, so no two keys are equal
abbrev pub by_address : List Label → List Label
by_address ls = sorted (λ m. m.address ∷ m.name) ls

unfoldable pub symbol_table : List Label → List ℕ  -- empty without labels
symbol_table [] = []
symbol_table (l ∷ ls) = text_line symbol_header ++ flat_map (λ m. text_line (symbol_row m)) (by_address (l ∷ ls))

-- .LINKER_INFO
abbrev pub linker_header : List ℕ
linker_header = ascii "ADDR | LABEL"

abbrev pub linker_row : Relocation → List ℕ  -- ADDR and LABEL
linker_row q = hex4 q.address ++ table_div ++ q.name

-- relocations by address, as they stand
unfoldable pub linker_table : List Relocation → List ℕ
linker_table [] = []
linker_table (r ∷ rs) = text_line linker_header ++ flat_map (λ q. text_line (linker_row q)) (r ∷ rs)

-- .DEBUG, the label table: "Label column width is the longest name in bytes, at least 5"
abbrev pub label_width : List Label → ℕ
label_width ls = widest (λ m. length m.name) 5 ls

abbrev pub index_width : List Label → ℕ  -- the longest index, at least 5
index_width ls = widest (λ m. length (decimal m.start)) 5 ls

-- for columns of these widths
abbrev pub label_header : ℕ → ℕ → List ℕ
label_header names indices = to_left names (ascii "LABEL") ++ table_div ++ to_left indices (ascii "INDEX")

abbrev pub label_row : ℕ → ℕ → Label → List ℕ  -- LABEL and INDEX
label_row names indices m = to_left names m.name ++ table_div ++ to_right indices (decimal m.start)

-- labels by source start, then name: names differ, so no two keys are equal
abbrev pub by_start : List Label → List Label
by_start ls = sorted (λ m. m.start ∷ m.name) ls

unfoldable pub label_table : List Label → List ℕ  -- empty without labels
label_table [] = []
label_table (l ∷ ls) =
    let names = label_width (l ∷ ls) in
    let indices = index_width (l ∷ ls) in
    text_line (label_header names indices) ++ flat_map (λ m. text_line (label_row names indices m)) (by_start (l ∷ ls))

-- .DEBUG, the line table. "`escape_default`: \t \r \n \' \" \\ so, x20 to x7E plain, else `\u{..}`, lower-case hex, no leading zeros"
unfoldable pub escape_char : ℕ → List ℕ
escape_char c =
    if eqb c 0x09 then ascii "\\t"
    else if eqb c 0x0D then ascii "\\r"
    else if eqb c 0x0A then ascii "\\n"
    else if eqb c 0x27 then ascii "\\'"
    else if eqb c 0x22 then ascii "\\\""
    else if eqb c 0x5C then ascii "\\\\"
    else if is_between 0x20 0x7E c then c ∷ []
    else ascii "\\u{" ++ numeral 5 16 c [] ++ ascii "}"

unfoldable pub escape : List ℕ → List ℕ  -- of a text
escape t = flat_map escape_char (scalars_of t)

-- a row of the line table: a line number, and its address if it has one
pub record Row : Type 0 where
  pub number : ℕ
  pub address : Option ℕ

abbrev pub row_key : Row → List ℕ  -- rows by line number
row_key r = r.number ∷ []

-- n rows without addresses, from a line on: a row for each line of the source
unfoldable pub plain_rows : ℕ → ℕ → List Row
plain_rows i zero = []
plain_rows i (suc n) = record { number = i; address = none } ∷ plain_rows (suc i) n

-- "Line numbers past the largest 64-bit value wrap to 0, as `wrapping_add`; a later address replaces."
unfoldable pub add_rows : ℕ → List ℕ → List Row → List Row
add_rows i [] rows = rows
add_rows i (a ∷ xs) rows = add_rows (suc i) xs (upsert row_key (record { number = i % 2 ^ 64; address = some a }) rows)

unfoldable pub add_blocks : List LineBlock → List Row → List Row  -- line block by line block
add_blocks [] rows = rows
add_blocks (l ∷ ls) rows = add_blocks ls (add_rows l.first l.addresses rows)

unfoldable pub line_rows : List ℕ → List LineBlock → List Row  -- the rows of the source, with addresses
line_rows s ls = add_blocks ls (plain_rows 0 (line_count s))

-- a line with its newline, escaped. "Lines beyond the source have empty SOURCE."
unfoldable pub source_cell : List ℕ → ℕ → List ℕ
source_cell s i = given_or (raw_line_span s i >>= λ r. given (escape (span_bytes s r))) []

abbrev pub line_header : ℕ → List ℕ  -- for a column of this width
line_header numbers = to_left numbers (ascii "LINE") ++ table_div ++ ascii "ADDR" ++ table_div ++ ascii "SOURCE"

-- with the SOURCE cell of each line
abbrev pub line_row : ℕ → (ℕ → List ℕ) → Row → List ℕ
line_row numbers cell_of r =
    to_right numbers (decimal r.number) ++ table_div ++ memory_text r.address ++ table_div ++ cell_of r.number

abbrev pub line_width : List Row → ℕ  -- the longest line number, at least 4
line_width rows = widest (λ r. length (decimal r.number)) 4 rows

unfoldable pub line_table : List ℕ → List LineBlock → List ℕ  -- header and rows
line_table s ls =
    let rows = line_rows s ls in
    text_line (line_header (line_width rows)) ++ flat_map (λ r. text_line (line_row (line_width rows) (source_cell s) r)) rows

abbrev pub bar_line : List ℕ  -- a divider line
bar_line = text_line (ascii "====================")

-- "Without labels, source and relocations the crate's `sym` is None"
unfoldable pub blocks_only : ObjectFile → Bool
blocks_only h = is_empty h.labels && not (is_some h.source) && is_empty h.relocations

unfoldable pub symbol_groups : ObjectFile → List ℕ  -- .SYMBOL, .LINKER_INFO and .DEBUG
symbol_groups h =
    text_line (ascii ".SYMBOL") ++ symbol_table h.labels ++ text_line []
    ++ text_line (ascii ".LINKER_INFO") ++ linker_table h.relocations ++ text_line []
    ++ text_line (ascii ".DEBUG") ++ text_line (ascii "# DEBUG SYMBOLS FOR LC3TOOLS") ++ text_line []
    ++ label_table h.labels ++ bar_line
    ++ get_or (and_then h.source λ s. some (line_table s h.line_blocks ++ bar_line)) []

unfoldable pub text_file : ObjectFile → List ℕ  -- "byte for byte"
text_file h =
    text_line (ascii "LC-3 OBJ FILE") ++ text_line [] ++ text_line (ascii ".TEXT") ++ flat_map block_lines h.blocks ++ text_line []
    ++ (if blocks_only h then [] else symbol_groups h)

unfoldable pub open-TextWriter : Unit {0}
unfolding hex4 numeral decimal widest block_lines symbol_table linker_table label_table escape_char escape plain_rows add_rows add_blocks
    line_rows source_cell line_table blocks_only symbol_groups text_file
open-TextWriter = tt
