use mathlib.Core.Path.{sym, ◌∙◌}
use Rattle.text_tables.proofs.DebugLaws.{source-done, source-end, source-line}
use Rattle.text_tables.proofs.next_source_line.Goals as goal

pub returns-in_err-line : goal.returns-in_err-line
returns-in_err-line c = rw c.from_residual.ensures (source-done c.args.t.now c.args.at c.in_err-line.ensures)

pub returns-then-has_row : goal.returns-then-has_row
returns-then-has_row c = source-line _ _ _ _ _ c.in_ok-line.ensures (sym c.has_row.ensures ∙ c.if-has_row.true)

pub returns : goal.returns
returns c = source-end _ _ _ _ _ c.in_ok-line.ensures (sym c.has_row.ensures ∙ c.if-has_row.false)
