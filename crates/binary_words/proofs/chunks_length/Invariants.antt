use mathlib.Core.Path.{◌≡◌}
use Prim.Native.Nat.{◌+◌, ◌-◌}
use lib.ListN.{length}
use Rattle.gather.specs.Places.{places_from, places_of}
use Rattle.binary_words.proofs.SourceLaws.{chunks_length}
use Rattle.binary_words.proofs.chunks_length.Given as goal

abbrev pub invariant-loop-p : goal.invariant-loop-p
invariant-loop-p l = l.sum + chunks_length l.s (places_from 3 l.s l.at) ≡ chunks_length l.s (places_of 3 l.s)

abbrev pub decreases-loop-p : goal.decreases-loop-p
decreases-loop-p l = length l.s - l.at
