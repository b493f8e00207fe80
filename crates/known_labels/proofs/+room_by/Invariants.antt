use mathlib.Core.Bool.{Bool}
use Prim.Native.Nat.{ℕ}
use Rattle.std.specs.Prelude.{if◌then◌else◌}
use Rattle.known_labels.proofs.+room_by.Given as goal

-- once more at most
abbrev pub turns : Bool → ℕ
turns many = if many then 0 else 1

abbrev pub decreases-room_by : goal.decreases-room_by
decreases-room_by l = turns l.many
