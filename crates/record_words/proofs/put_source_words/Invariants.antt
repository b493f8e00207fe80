use Prim.Native.Nat.{◌*◌}
use lib.ListN.{drop}
use Rattle.writing.proofs.Parts.{Emits}
use Rattle.format.specs.Words.{text_words}
use Rattle.record_words.proofs.put_source_words.Given as goal

abbrev pub invariant-loop-at : goal.invariant-loop-at
invariant-loop-at l = Emits (text_words l.s) l.initial.out (text_words (drop (3 * l.at) l.s)) (record { at = l.at; out = l.out })
