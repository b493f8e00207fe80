-- The row's number and its address by its first two cells. Assumes nothing.
use mathlib.Core.Path.{◌≡◌, ap, ◌∙◌}
use mathlib.Core.List.{[]}
use mathlib.Core.Option.{none, some}
use lib.ListN.{get_or}
use Rattle.format.specs.Utf8.{trim}
use Rattle.format.specs.TextReader.{splitn, parse_number, maybe_hex2u16}
use Rattle.text_cells.specs.Cells.{number_read}
use Rattle.text_tables.proofs.LineRowLaws.{line-bad, line_some}
use Rattle.text_tables.proofs.parse_line_row.Goals as goal
use Rattle.text_tables.proofs.parse_line_row.Goals.{In_ok-number}

number : (c : In_ok-number) → some c.in_ok-number.number ≡ parse_number 10 18446744073709551616
    (trim (get_or (splitn 2 c.args.l.now) 0 []))
number c = c.in_ok-number.ensures ∙ ap (parse_number 10 18446744073709551616) c.trimmed_cells-cells.ensures.0.same

pub returns-in_err-number : goal.returns-in_err-number
returns-in_err-number c =
    rw c.from_residual.ensures
    (line-bad c.args.l.now (c.in_err-number.ensures ∙ ap (parse_number 10 18446744073709551616) c.trimmed_cells-cells.ensures.0.same))

pub returns-in_err-address : goal.returns-in_err-address
returns-in_err-address c =
    let k = (goal.at.returns-in_err-address c).In_ok-number in
    rw c.from_residual-in_err-address.ensures
    (line_some c.args.l.now c.in_ok-number.number none (number k) (c.in_err-address.ensures ∙ ap maybe_hex2u16 c.trimmed_cells-cells.ensures.1.same))

pub returns : goal.returns
returns c =
    line_some _ _ (some (number_read c.in_ok-address.address)) (number (goal.at.returns c).In_ok-number)
    (c.in_ok-address.ensures ∙ ap maybe_hex2u16 c.trimmed_cells-cells.ensures.1.same)
