use mathlib.Core.Path.{◌≡◌}
use mathlib.Core.List.{map}
use Prim.Native.Nat.{◌+◌, ◌-◌}
use lib.ListN.{length}
use Rattle.format.specs.Source.{offset_of}
use Rattle.object.specs.Bodies.{body_at}
use Rattle.object.specs.Access.{address_in}
use Rattle.line_tables.proofs.TableLaws.{offset_from}
use Rattle.line_tables.proofs.offset_of.Given as goal

abbrev pub invariant-loop-i : goal.invariant-loop-i
invariant-loop-i l = (l.i + length (body_at l.ws l.i) ≡ l.at + length (body_at l.ws l.at)) × (offset_from (l.i - l.at) l.wanted (map address_in (body_at l.ws l.i))
    ≡ offset_of l.a (map address_in (body_at l.ws l.at)))
