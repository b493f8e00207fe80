use mathlib.Core.Path.{◌≡◌}
use Prim.Native.Nat.{◌≤◌, ◌-◌}
use Rattle.format.specs.Basics.{how_many}
use Rattle.format.specs.Utf8.{is_white_space}
use Rattle.white_space_count.proofs.count_white_space.Given as goal

abbrev pub invariant-loop-c : goal.invariant-loop-c
invariant-loop-c l = (l.c ≤ l.end) × (l.n ≡ how_many is_white_space l.c)

abbrev pub decreases-loop-c : goal.decreases-loop-c
decreases-loop-c l = l.end - l.c
