-- The line after the header, if there is one. Assumes nothing.
use Rattle.text_debug.proofs.LineTableLaws.{not-empty}
use Rattle.text_debug.proofs.DebugGroupLaws.{row-none, row_last, row_first}
use Rattle.text_debug.proofs.first_line_row.Goals as goal

pub returns-in_err-header : goal.returns-in_err-header
returns-in_err-header c = rw c.from_residual.ensures (row-none c.args.t.now c.args.from c.in_err-header.ensures)

pub returns-in_err-next_source_line : goal.returns-in_err-next_source_line
returns-in_err-next_source_line c =
    rw c.from_residual-in_err-next_source_line.ensures (row_last c.args.t.now c.args.from _ _ _ c.in_ok-header.ensures c.in_err-next_source_line.ensures)

pub returns : goal.returns
returns c = row_first _ _ _ _ _ c.in_ok-header.ensures (not-empty _ _ _ _ _ c.in_ok-next_source_line.ensures)
