use Prim.Native.Nat.{◌-◌}
use lib.ListN.{length}
use Rattle.text_rows.specs.Rows.{number_of}
use Rattle.text_rows.proofs.StepLaws.{Seeking}
use Rattle.text_rows.proofs.next_place.Given as goal

abbrev pub invariant-loop-row : goal.invariant-loop-row
invariant-loop-row l = Seeking (number_of l.kind) l.t l.from l.at

abbrev pub decreases-loop-row : goal.decreases-loop-row
decreases-loop-row l = length l.t - l.at
