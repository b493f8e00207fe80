use Rattle.text_rows.proofs.StepLaws.{found_table, found_none}
use Rattle.text_rows.proofs.next_place.Goals as goal

pub returns-in_err-at : goal.returns-in_err-at
returns-in_err-at c = rw c.from_residual.ensures (found_none _ _ _ _ c.loop-row.invariant c.in_default.ensures c.in_err-at.ensures)

pub loop-row-preserved : goal.loop-row-preserved
loop-row-preserved c = found_table _ _ _ _ c.loop-row.invariant c.in_default.ensures _ c.in_ok-at.ensures
