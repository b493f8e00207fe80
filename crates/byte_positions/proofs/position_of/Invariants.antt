use mathlib.Core.Path.{◌≡◌}
use Prim.Native.Nat.{◌≤◌}
use lib.ListN.{length, drop}
use Rattle.format.specs.Source.{get_pos_pair}
use Rattle.source_info.specs.Passing.{pos_from}
use Rattle.byte_positions.proofs.position_of.Given as goal

abbrev pub invariant-loop-i : goal.invariant-loop-i
invariant-loop-i l = (l.i ≤ l.index) × (l.i ≤ length l.source) × (l.line ≤ l.i) × (l.start ≤ l.i)
    × (pos_from l.index l.line l.start l.i (drop l.i l.source) ≡ get_pos_pair l.source l.index)
