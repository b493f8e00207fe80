use mathlib.Core.Path.{◌≡◌}
use Prim.Native.Nat.{◌+◌, ◌-◌, ◌<◌}
use lib.ListN.{drop}
use Rattle.format.specs.Utf8.{follow}
use Rattle.utf8.proofs.CharLaws.{room}
use Rattle.utf8.proofs.follow_bits.Given as goal

abbrev pub invariant-loop-k : goal.invariant-loop-k
invariant-loop-k l = (l.bits < room l.k) × (follow (l.n - l.k) l.bits (drop (l.at + l.k) l.s) ≡ follow l.n l.first (drop l.at l.s))
