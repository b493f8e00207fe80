use Rattle.writing.proofs.Parts.{Emits}
use Rattle.object.specs.Texts.{span_bytes}
use Rattle.object.proofs.put_each.Given as goal

abbrev pub invariant-loop-i : goal.invariant-loop-i
invariant-loop-i l = Emits (span_bytes l.ws l.at l.start l.end) l.initial.out (span_bytes l.ws l.at l.i l.end) (record { at = l.n; out = l.out })
