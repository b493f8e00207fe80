use mathlib.Core.Path.{◌≡◌}
use mathlib.Core.List.{map}
use Prim.Native.Nat.{◌≤◌}
use lib.ListN.{length, take}
use Rattle.round_trips.specs.Rows.{row, Ran}
use Rattle.round_trips.proofs.run.Given as goal

abbrev pub invariant-loop-trip_row : goal.invariant-loop-trip_row
invariant-loop-trip_row l =
    (length l.stands ≡ length l.initial.stands) × (l.m ≤ length l.stands)
    × Ran (map row (take l.trip_row-index l.list)) (take l.n l.initial.stands) (take l.m l.stands)
