use mathlib.Core.Path.{◌≡◌}
use Prim.Native.Nat.{◌-◌, ◌≤◌}
use lib.ListN.{length, drop}
use Rattle.format.specs.ObjectFile.{strictly_rise}
use Rattle.format.specs.Binary.{addresses_from}
use Rattle.binary_scan.proofs.rises.Given as goal

abbrev pub invariant-loop-i : goal.invariant-loop-i
invariant-loop-i l = (l.i ≤ length l.s) × (strictly_rise (addresses_from (drop l.i l.s)) ≡ strictly_rise (addresses_from l.s))

abbrev pub decreases-loop-i : goal.decreases-loop-i
decreases-loop-i l = length l.s - l.i
