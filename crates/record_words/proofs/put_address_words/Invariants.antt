use Prim.Native.Nat.{◌*◌}
use lib.ListN.{drop}
use Rattle.writing.proofs.Parts.{Emits}
use Rattle.record_words.proofs.RecordLaws.{address_words}
use Rattle.record_words.proofs.put_address_words.Given as goal

abbrev pub invariant-loop-at : goal.invariant-loop-at
invariant-loop-at l = Emits (address_words l.s) l.initial.out (address_words (drop (2 * l.at) l.s)) (record { at = l.at; out = l.out })
