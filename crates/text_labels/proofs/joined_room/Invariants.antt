use mathlib.Core.List.{map}
use Prim.Native.Nat.{◌+◌}
use lib.ListN.{length}
use Rattle.format.specs.Records.{label}
use Rattle.format.specs.Words.{record_words}
use Rattle.text_labels.specs.Labels.{labels_of, left_in}
use Rattle.text_labels.proofs.RoomLaws.{Measuring}
use Rattle.text_labels.proofs.joined_room.Given as goal

abbrev pub invariant-loop-x : goal.invariant-loop-x
invariant-loop-x l = Measuring l.t (map record_words (map label (labels_of l.t))) l.room l.left l.initial.symbols l.symbols l.initial.starts l.starts l.s l.d

abbrev pub decreases-loop-x : goal.decreases-loop-x
decreases-loop-x l = length (left_in 1 l.t l.symbols l.s) + length (left_in 3 l.t l.starts l.d)
