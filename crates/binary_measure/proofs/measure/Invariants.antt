use Prim.Native.Nat.{◌-◌}
use lib.ListN.{length}
use Rattle.binary_measure.proofs.MeasureLaws.{Measures}
use Rattle.binary_measure.proofs.measure.Given as goal

abbrev pub invariant-loop-at : goal.invariant-loop-at
invariant-loop-at l = Measures l.ws l.used l.room l.at l.space

abbrev pub decreases-loop-at : goal.decreases-loop-at
decreases-loop-at l = length l.ws - l.at
