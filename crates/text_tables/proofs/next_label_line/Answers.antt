use mathlib.Core.Path.{sym, ◌∙◌}
use Rattle.text_tables.proofs.DebugLaws.{label-done, label-end, label-line}
use Rattle.text_tables.proofs.next_label_line.Goals as goal

pub returns-in_err-line : goal.returns-in_err-line
returns-in_err-line c = rw c.from_residual.ensures (label-done c.args.t.now c.args.at c.in_err-line.ensures)

pub returns-then-begins_with : goal.returns-then-begins_with
returns-then-begins_with c = label-end _ _ _ _ _ c.in_ok-line.ensures (sym c.begins_with.ensures ∙ c.if-begins_with.true)

pub returns : goal.returns
returns c = label-line _ _ _ _ _ c.in_ok-line.ensures (sym c.begins_with.ensures ∙ c.if-begins_with.false)
