use mathlib.Core.Path.{◌≡◌}
use lib.ListN.{drop}
use Rattle.format.specs.Digits.{value_of}
use Rattle.bytes_at.proofs.value_le.Given as goal

abbrev pub invariant-loop-i : goal.invariant-loop-i
invariant-loop-i l = l.v ≡ value_of 8 (drop l.i l.s)
