use mathlib.Core.Path.{◌≡◌}
use mathlib.Core.List.{map}
use lib.ListN.{drop}
use Rattle.text_rows.specs.Rows.{number_of}
use Rattle.text_words.specs.Written.{words_at}
use Rattle.text_words.specs.Room.{room_after}
use Rattle.text_words.proofs.window_room.Given as goal

abbrev pub invariant-loop-p : goal.invariant-loop-p
invariant-loop-p l =
    room_after (map (words_at (number_of l.kind) l.t) (drop l.p-index l.places)) l.left ≡ room_after (map (words_at (number_of l.kind) l.t) l.places) l.room
