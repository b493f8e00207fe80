use mathlib.Core.Path.{◌≡◌}
use mathlib.Core.List.{map}
use Prim.Native.Nat.{◌+◌, ◌≤◌, ◌^◌}
use lib.ListN.{length}
use Rattle.format.specs.ObjectFile.{strictly_rise}
use Rattle.object.specs.Bodies.{body_at}
use Rattle.object.specs.Access.{address_in}
use Rattle.fair.proofs.FairLaws.{rise_from}
use Rattle.fair.proofs.rises.Given as goal

abbrev pub invariant-loop-i : goal.invariant-loop-i
invariant-loop-i l = (l.i + length (body_at l.ws l.i) ≡ l.at + length (body_at l.ws l.at)) × (rise_from l.least (map address_in (body_at l.ws l.i)) ≡ strictly_rise (map address_in (body_at l.ws l.at))) × (l.least ≤ 2 ^ 16)
