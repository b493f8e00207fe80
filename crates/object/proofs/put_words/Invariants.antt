use Prim.Native.Nat.{◌*◌}
use Rattle.writing.proofs.Parts.{Emits}
use Rattle.object.specs.Texts.{span_bytes}
use Rattle.object.proofs.put_words.Given as goal

abbrev pub invariant-loop-k : goal.invariant-loop-k
invariant-loop-k l = Emits (span_bytes l.ws l.at (3 * l.first) (3 * l.last)) l.initial.out (span_bytes l.ws l.at (3 * l.k) (3 * l.last)) (record { at = l.n; out = l.out })
