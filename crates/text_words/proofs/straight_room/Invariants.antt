use mathlib.Core.Path.{◌≡◌}
use mathlib.Core.List.{map}
use Prim.Native.Nat.{◌-◌}
use lib.ListN.{length}
use Rattle.format.specs.Words.{record_words}
use Rattle.text_rows.specs.Rows.{number_of, rows_from}
use Rattle.text_words.specs.Room.{room_after}
use Rattle.text_words.proofs.straight_room.Given as goal

abbrev pub invariant-loop-row : goal.invariant-loop-row
invariant-loop-row l =
    room_after (map record_words (rows_from (number_of l.kind) l.t l.at)) l.left ≡ room_after (map record_words (rows_from (number_of l.kind) l.t l.from)) l.room

abbrev pub decreases-loop-row : goal.decreases-loop-row
decreases-loop-row l = length l.t - l.at
