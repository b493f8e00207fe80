-- Which cells of a text hold a number, and that none with a leading `+` is read or written (document 02, P8), as statements.
-- Assumes nothing.
use Rattle.std.specs.Prelude.{◌≡◌, Bool, true, false, not, ℕ, ◌^◌, ◌≤◌, ◌<◌, take, drop, replicate, if◌then◌else◌}
use mathlib.Core.List.{List, [], ◌∷◌, ◌++◌, map, flat_map}
use Rattle.std.proofs.Math.Option.{Option, get_or}
use Rattle.format.specs.Basics.{refused, given, and_then, ascii, is_empty, every, eqs, begins_with}
use Rattle.format.specs.Tokens.{parts_at}
use Rattle.format.specs.Utf8.{trim}
use Rattle.format.specs.ObjectFile.{ObjectFile}
use Rattle.format.specs.Fair.{Fair}
use Rattle.format.specs.TextWriter.{hex4, decimal, memory_text}
use Rattle.format.specs.TextReader.{kept_lines, parse_number, parse_decimal, splitn, cell_at, block_at, parse_symbol_group, parse_linker_group}
use Rattle.format.specs.TextReader.{parse_label_table, parse_line_table, split_at_bar, up_to_bar}
use Rattle.format.specs.Calls.{read_text, write_text}
use Rattle.format.specs.Trips.{IsSlice}

-- without "a leading `+`"
abbrev pub is_unsigned : List ℕ → Bool
is_unsigned cell = not (begins_with (ascii "+") cell)

-- "Hex and decimal cells": these columns of a table's rows, which are its lines after the header, cut at k dividers at most; trimmed
unfoldable pub column_cells : ℕ → List ℕ → List (List ℕ) → List (List ℕ)
column_cells k columns ls = flat_map (λ l. map (λ i. trim (cell_at i (splitn k l))) columns) (drop 1 ls)

abbrev pub symbol_cells : List (List ℕ) → List (List ℕ)  -- .SYMBOL: ADDR and EXT
symbol_cells ls = column_cells 2 (0 ∷ 1 ∷ []) ls

abbrev pub linker_cells : List (List ℕ) → List (List ℕ)  -- .LINKER_INFO: ADDR
linker_cells ls = column_cells 1 (0 ∷ []) ls

abbrev pub label_cells : List (List ℕ) → List (List ℕ)  -- .DEBUG, its label table: INDEX
label_cells ls = column_cells 1 (1 ∷ []) ls

abbrev pub line_cells : List (List ℕ) → List (List ℕ)  -- .DEBUG, its line table: LINE and ADDR
line_cells ls = column_cells 2 (0 ∷ 1 ∷ []) ls

-- .TEXT: the block that the lines begin with, its address, its count and as many entries as that says; these "aren't trimmed"
unfoldable pub block_cells : List (List ℕ) → List (List ℕ)
block_cells [] = []
block_cells (l ∷ []) = l ∷ []
block_cells (l ∷ c ∷ ls) = l ∷ c ∷ take (get_or (parse_decimal (2 ^ 16) c) 0) ls

-- .DEBUG, both tables
unfoldable pub debug_cells : List (List ℕ) → List (List ℕ)
debug_cells ls =
    let p = split_at_bar ls in
    label_cells p.before ++ line_cells (get_or (and_then p.after up_to_bar) [])

-- "all four groups": of .TEXT every line is an address, a count or an entry
unfoldable pub number_cells : List ℕ × List (List ℕ) → List (List ℕ)
number_cells g =
    if eqs g.0 (ascii ".TEXT") then g.1
    else if eqs g.0 (ascii ".SYMBOL") then symbol_cells g.1
    else if eqs g.0 (ascii ".LINKER_INFO") then linker_cells g.1
    else if eqs g.0 (ascii ".DEBUG") then debug_cells g.1
    else []

-- of a text: its first kept line is no group's
unfoldable pub text_cells : List ℕ → List (List ℕ)
text_cells bs = flat_map number_cells (parts_at (begins_with (ascii ".")) (drop 1 (kept_lines bs))).groups

-- "Hex and decimal cells with a leading `+` are now refused": a text that is read has none
abbrev pub NoSignRead : Type 0
NoSignRead = (bs ws : List ℕ) → read_text bs ≡ given ws → every is_unsigned (text_cells bs) ≡ true

-- "with the number of their table or block (24, 26 or 28)", whatever stands before it and beside it there
pub record SignRefused : Type 0 where
  pub block : (h : ObjectFile) (ls : List (List ℕ)) → every is_unsigned (block_cells ls) ≡ false → block_at h ls ≡ refused 24
  pub symbol : (h : ObjectFile) (ls : List (List ℕ)) → every is_unsigned (symbol_cells ls) ≡ false → parse_symbol_group h ls ≡ refused 26
  pub linker : (h : ObjectFile) (ls : List (List ℕ)) → every is_unsigned (linker_cells ls) ≡ false → parse_linker_group h ls ≡ refused 26
  pub label : (h : ObjectFile) (ls : List (List ℕ)) → every is_unsigned (label_cells ls) ≡ false → parse_label_table h ls ≡ refused 26
  pub line : (h : ObjectFile) (ls : List (List ℕ)) → every is_unsigned (line_cells ls) ≡ false → parse_line_table h ls ≡ refused 28

-- "nothing that the writer produces has one": no numeral of any object, and no cell of a fair object's text as a reader cuts it; a name
-- that isn't fair may hold a line of its own
pub record NoSignWritten : Type 0 where
  pub decimals : (n : ℕ) → n < 2 ^ 64 → is_unsigned (decimal n) ≡ true
  pub addresses : (v : ℕ) → is_unsigned (hex4 v) ≡ true
  pub entries : (w : Option ℕ) → is_unsigned (memory_text w) ≡ true
  pub texts : (ws bs : List ℕ) → IsSlice ws → Fair ws → write_text ws ≡ given bs → every is_unsigned (text_cells bs) ≡ true

-- "Leading zeros stay welcome.": as many as there are, before at least one digit
abbrev pub ZerosWelcome : Type 0
ZerosWelcome =
    (k base limit : ℕ) (bs : List ℕ) → 1 ≤ base → is_empty bs ≡ false → parse_number base limit (replicate k 0x30 ++ bs) ≡ parse_number base limit bs

unfoldable pub open-Signs : Unit {0}
unfolding column_cells block_cells debug_cells number_cells text_cells
open-Signs = tt
