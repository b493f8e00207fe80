use Rattle.format.proofs.TrimLaws.{Visible}
use Rattle.text_tables.specs.RowCells.{Run}
use Rattle.text_tables.proofs.visible_end.Given as goal

abbrev pub invariant-loop-i : goal.invariant-loop-i
invariant-loop-i l = Run Visible l.l l.at l.i
