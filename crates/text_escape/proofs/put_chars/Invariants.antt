use Prim.Native.Nat.{◌-◌}
use Rattle.text_escape.specs.Escaped.{escaped_in}
use Rattle.writing.proofs.Parts.{Emits}
use Rattle.text_escape.proofs.put_chars.Given as goal

abbrev pub invariant-loop-i : goal.invariant-loop-i
invariant-loop-i l = Emits (escaped_in l.ws l.at l.start l.end) l.initial.out (escaped_in l.ws l.at l.i l.end) (record { at = l.n; out = l.out })

abbrev pub decreases-loop-i : goal.decreases-loop-i
decreases-loop-i l = l.end - l.i
