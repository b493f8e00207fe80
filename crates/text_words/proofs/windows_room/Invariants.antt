use lib.ListN.{length}
use Rattle.text_rows.specs.Rows.{number_of}
use Rattle.text_gather.specs.Order.{left}
use Rattle.text_words.proofs.RoomLaws.{Rooms}
use Rattle.text_words.proofs.windows_room.Given as goal

abbrev pub invariant-loop-left : goal.invariant-loop-left
invariant-loop-left l = Rooms (number_of l.kind) l.t (left l.t l.sorting) (left l.t l.initial.sorting) l.room l.left l.initial.win l.win (number_of l.sorting.kind)

abbrev pub decreases-loop-left : goal.decreases-loop-left
decreases-loop-left l = length (left l.t l.sorting)
