use Prim.Native.Nat.{◌-◌}
use lib.ListN.{length}
use Rattle.writing.proofs.Parts.{Emits}
use Rattle.measuring.specs.Fitting.{fitting}
use Rattle.text_parts_out.specs.Parts.{heads, link_text}
use Rattle.text_parts_out.proofs.put_relocations.Given as goal

abbrev pub invariant-loop-at : goal.invariant-loop-at
invariant-loop-at l = Emits (fitting (link_text l.ws) (length l.initial.out) (heads l.ws l.from)) l.initial.out (fitting (link_text l.ws) (length l.initial.out - l.n) (heads l.ws l.at))
    (record { at = l.n; out = l.out })

abbrev pub decreases-loop-at : goal.decreases-loop-at
decreases-loop-at l = length l.ws - l.at
