use mathlib.Core.Path.{◌≡◌}
use mathlib.Core.List.{flat_map}
use Prim.Native.Nat.{◌-◌}
use lib.ListN.{length}
use Rattle.measuring.specs.Room.{less_part}
use Rattle.label_order.specs.Labels.{places_from, label_places}
use Rattle.label_tables.specs.Tables.{line_of}
use Rattle.label_tables.proofs.Table.rows_room.Given as goal

abbrev pub invariant-loop-p : goal.invariant-loop-p
invariant-loop-p l = less_part l.left (flat_map (line_of l.self l.ws) (places_from l.ws l.at)) ≡ less_part l.room (flat_map (line_of l.self l.ws) (label_places l.ws))

abbrev pub decreases-loop-p : goal.decreases-loop-p
decreases-loop-p l = length l.ws - l.at
