use Prim.Native.Nat.{◌-◌}
use lib.ListN.{length}
use Rattle.text_write.specs.Layouts.{Past}
use Rattle.text_write.proofs.lines.past_labels.Given as goal

abbrev pub invariant-loop-at : goal.invariant-loop-at
invariant-loop-at l = Past l.ws l.at

abbrev pub decreases-loop-at : goal.decreases-loop-at
decreases-loop-at l = length l.ws - l.at
