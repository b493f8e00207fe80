use mathlib.Core.Path.{◌≡◌}
use Prim.Native.Nat.{◌-◌}
use lib.ListN.{length}
use Rattle.format.specs.Sorted.{order}
use Rattle.object.specs.Bodies.{body_at, text_at, Text}
use Rattle.well_formed.proofs.text_below.Given as goal

abbrev pub invariant-loop-a : goal.invariant-loop-a
invariant-loop-a l = Text (body_at l.ws l.i) × Text (body_at l.ws l.j)
    × (order (text_at l.ws l.i) (text_at l.ws l.j) ≡ order (text_at l.ws l.a) (text_at l.ws l.b))

abbrev pub decreases-loop-a : goal.decreases-loop-a
decreases-loop-a l = length l.ws - l.j
