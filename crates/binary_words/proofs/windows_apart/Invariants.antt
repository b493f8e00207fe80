use mathlib.Core.Path.{◌≡◌}
use lib.ListN.{length}
use Rattle.format.specs.ObjectFile.{apart}
use Rattle.sorting.specs.Left.{left}
use Rattle.binary_words.specs.RecordAt.{object_at}
use Rattle.binary_words.specs.Apart.{place_of, apart_from}
use Rattle.binary_words.proofs.windows_apart.Given as goal

abbrev pub invariant-loop-sorting : goal.invariant-loop-sorting
invariant-loop-sorting l = (length l.win ≡ length l.initial.win) × (apart_from l.s (place_of l.last) (left l.s l.sorting) ≡ apart (object_at l.s).line_blocks)

abbrev pub decreases-loop-sorting : goal.decreases-loop-sorting
decreases-loop-sorting l = length (left l.s l.sorting)
