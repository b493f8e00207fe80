use mathlib.Core.Path.{◌≡◌}
use mathlib.Core.Bool.{true}
use Prim.Native.Nat.{◌+◌}
use Rattle.object.specs.Bodies.{SameEnd}
use Rattle.object.proofs.is_body_block.Given as goal

abbrev pub invariant-loop-k : goal.invariant-loop-k
invariant-loop-k l = l.all ≡ true → SameEnd l.ws l.at (l.at + l.k)
