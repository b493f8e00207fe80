use mathlib.Core.Path.{◌≡◌}
use Prim.Native.Nat.{◌+◌}
use lib.ListN.{length}
use Rattle.object.specs.Bodies.{body_at}
use Rattle.object.proofs.near_end.Given as goal

abbrev pub invariant-loop-i : goal.invariant-loop-i
invariant-loop-i l = l.i + length (body_at l.ws l.i) ≡ l.at + length (body_at l.ws l.at)
