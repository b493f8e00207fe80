-- .DEBUG's line table, row by row.
-- Assumes nothing.
use Rattle.std.specs.Prelude as std
use Rattle.std.specs.Prelude.{Some, None, Bool, false, eqb, List, [], ℕ, get_or}
use Rattle.std.proofs.Math.Option.{Option, none, some}
use Rattle.format.specs.Basics.{and_then}
use Rattle.format.specs.Utf8.{trim}
use Rattle.format.specs.TextReader.{splitn, parse_decimal, maybe_hex2u16}
use Rattle.text_cells.specs.Cells.{number_read}
use Rattle.text_tables.specs.declared.LineRow.{LineRow}

-- the row's number and its address
unfoldable pub line_in : List ℕ → Option (ℕ × Option ℕ)
line_in l =
    and_then (parse_decimal 18446744073709551616 (trim (get_or (splitn 2 l) 0 []))) λ n.
    and_then (maybe_hex2u16 (trim (get_or (splitn 2 l) 1 []))) λ a. some (n, a)

abbrev pub line_of : std.Option LineRow → Option (ℕ × Option ℕ)
line_of (Some r) = some (r.number, number_read r.address)
line_of None = none

abbrev pub is_line : ℕ → Option (ℕ × Option ℕ) → Bool
is_line i none = false
is_line i (some r) = eqb r.0 i
