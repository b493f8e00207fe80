use mathlib.Core.Path.{◌≡◌}
use mathlib.Core.List.{flat_map}
use lib.ListN.{length}
use Rattle.writing.proofs.Parts.{Emits}
use Rattle.sorting.specs.Left.{left}
use Rattle.binary_words.specs.RecordAt.{words_at, part_words}
use Rattle.gather.specs.Kinds.{byte_of}
use Rattle.binary_emit.proofs.put_windows.Given as goal

abbrev pub invariant-loop-win : goal.invariant-loop-win
invariant-loop-win l = (length l.win ≡ length l.initial.win) × Emits (part_words (byte_of l.kind) l.s) l.initial.out (flat_map (words_at (byte_of l.kind) l.s) (left l.s l.sorting)) (record { at = l.at; out = l.out })

abbrev pub decreases-loop-win : goal.decreases-loop-win
decreases-loop-win l = length (left l.s l.sorting)
