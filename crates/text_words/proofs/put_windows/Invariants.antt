use lib.ListN.{length}
use Rattle.text_rows.specs.Rows.{number_of}
use Rattle.text_gather.specs.Order.{left}
use Rattle.text_words.proofs.PutLaws.{Walks}
use Rattle.text_words.proofs.put_windows.Given as goal

abbrev pub invariant-loop-sorting : goal.invariant-loop-sorting
invariant-loop-sorting l = Walks (number_of l.kind) l.t (left l.t l.sorting) (left l.t l.initial.sorting) l.initial.out l.out l.initial.win l.win l.at (number_of l.sorting.kind)

abbrev pub decreases-loop-sorting : goal.decreases-loop-sorting
decreases-loop-sorting l = length (left l.t l.sorting)
