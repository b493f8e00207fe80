use mathlib.Core.Bool.{Bool}
use Prim.Native.Nat.{ℕ}
use Rattle.std.specs.Prelude.{if◌then◌else◌}
use Rattle.text_read.proofs.+fill_by.Given as goal

-- once more at most
abbrev pub turns : Bool → ℕ
turns many = if many then 0 else 1

abbrev pub decreases-fill_by : goal.decreases-fill_by
decreases-fill_by l = turns l.many
