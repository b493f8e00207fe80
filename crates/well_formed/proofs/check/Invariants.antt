use mathlib.Core.Path.{◌≡◌}
use mathlib.Core.List.{[]}
use Prim.Native.Nat.{◌-◌}
use lib.ListN.{length}
use Rattle.well_formed.specs.Run.{walk, start}
use Rattle.object.specs.Bodies.{body_at, groups_at}
use Rattle.well_formed.specs.Steps.{Known, past_in}
use Rattle.well_formed.proofs.check.Given as goal

-- the same answer from here
abbrev pub invariant-loop-at : goal.invariant-loop-at
invariant-loop-at l = (body_at l.object l.at ≡ []) × Known l.object l.seen.key × (walk (past_in l.object l.seen) (groups_at l.object l.at) ≡ walk start (groups_at l.object 0))
    × (body_at l.object 0 ≡ [])

abbrev pub decreases-loop-at : goal.decreases-loop-at
decreases-loop-at l = length l.object - l.at
