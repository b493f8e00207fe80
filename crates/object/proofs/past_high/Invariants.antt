use Rattle.object.specs.Bodies.{SameEnd}
use Rattle.object.proofs.past_high.Given as goal

abbrev pub invariant-loop-i : goal.invariant-loop-i
invariant-loop-i l = SameEnd l.ws l.at l.i
