use mathlib.Core.Path.{◌≡◌}
use mathlib.Core.List.{◌++◌, flat_map}
use Prim.Native.Nat.{◌-◌, ◌<◌}
use lib.ListN.{length, take}
use Rattle.format.specs.Words.{text_words}
use Rattle.writing.proofs.Parts.{Emits}
use Rattle.gather.specs.Places.{places_from}
use Rattle.binary_words.specs.RecordAt.{chunk_at}
use Rattle.binary_emit.specs.Chunks.{chunks_of}
use Rattle.binary_emit.proofs.put_chunks.Given as goal

abbrev pub invariant-loop-p : goal.invariant-loop-p
invariant-loop-p l = (l.n < 3) × (length l.held ≡ 3)
    × Emits (text_words (chunks_of l.s)) l.initial.out (text_words (take l.n l.held ++ flat_map (chunk_at l.s) (places_from 3 l.s l.place)))
    (record { at = l.at; out = l.out })

abbrev pub decreases-loop-p : goal.decreases-loop-p
decreases-loop-p l = length l.s - l.place
