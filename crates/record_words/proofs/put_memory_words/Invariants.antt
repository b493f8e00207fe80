use Prim.Native.Nat.{◌*◌}
use lib.ListN.{drop}
use Rattle.writing.proofs.Parts.{Emits}
use Rattle.record_words.proofs.RecordLaws.{memory_words}
use Rattle.record_words.proofs.put_memory_words.Given as goal

abbrev pub invariant-loop-at : goal.invariant-loop-at
invariant-loop-at l = Emits (memory_words l.s) l.initial.out (memory_words (drop (3 * l.at) l.s)) (record { at = l.at; out = l.out })
