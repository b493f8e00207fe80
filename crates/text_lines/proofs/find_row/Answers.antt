use mathlib.Core.Path.{sym, ap, ◌∙◌}
use Rattle.text_lines.proofs.RowLaws.{row_line, row-none, parts-done}
use Rattle.text_lines.proofs.find_row.Goals as goal

pub returns-in_err-line : goal.returns-in_err-line
returns-in_err-line c = rw c.from_residual.ensures (ap (λ p. p.before) (parts-done _ _ c.in_err-line.ensures))

pub returns-then-begins_with : goal.returns-then-begins_with
returns-then-begins_with c = row-none _ _ _ _ _ c.in_ok-line.ensures (sym c.begins_with.ensures ∙ c.if-begins_with.true)

pub returns : goal.returns
returns c = row_line _ _ _ _ _ c.in_ok-line.ensures (sym c.begins_with.ensures ∙ c.if-begins_with.false)
