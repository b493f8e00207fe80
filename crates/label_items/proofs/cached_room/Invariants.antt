use mathlib.Core.Path.{◌≡◌}
use Rattle.text_words.specs.Room.{room_after}
use Rattle.label_items.specs.Items.{label_at}
use Rattle.label_items.proofs.ItemLaws.{words_from}
use Rattle.label_items.proofs.cached_room.Given as goal

abbrev pub invariant-loop-i : goal.invariant-loop-i
invariant-loop-i l = room_after (words_from (label_at l.t l.items) l.n l.i) l.left ≡ room_after (words_from (label_at l.t l.items) l.n 0) l.room
