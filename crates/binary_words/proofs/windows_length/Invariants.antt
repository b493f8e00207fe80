use mathlib.Core.Path.{◌≡◌}
use Prim.Native.Nat.{◌+◌}
use lib.ListN.{length}
use Rattle.sorting.specs.Left.{left}
use Rattle.binary_words.specs.RecordAt.{part_words}
use Rattle.binary_words.proofs.LengthLaws.{total}
use Rattle.gather.specs.Kinds.{byte_of}
use Rattle.binary_words.proofs.windows_length.Given as goal

abbrev pub invariant-loop-win : goal.invariant-loop-win
invariant-loop-win l = (length l.win ≡ length l.initial.win) × (l.sum + total (byte_of l.kind) l.s (left l.s l.sorting) ≡ length (part_words (byte_of l.kind) l.s))

abbrev pub decreases-loop-win : goal.decreases-loop-win
decreases-loop-win l = length (left l.s l.sorting)
