use Prim.Native.Nat.{◌-◌}
use lib.ListN.{length}
use Rattle.text_push.specs.Pushes.{state_of}
use Rattle.text_push.proofs.PushLaws.{Pushing}
use Rattle.text_push.proofs.push_bytes.Given as goal

abbrev pub invariant-loop-i : goal.invariant-loop-i
invariant-loop-i l = Pushing l.s (state_of l.initial.h) (state_of l.h) l.initial.out l.out l.i

abbrev pub decreases-loop-i : goal.decreases-loop-i
decreases-loop-i l = length l.s - l.i
