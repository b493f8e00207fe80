use Prim.Native.Nat.{◌-◌}
use lib.ListN.{length}
use Rattle.writing.proofs.Parts.{Emits}
use Rattle.measuring.specs.Fitting.{fitting}
use Rattle.text_parts_out.specs.Parts.{heads, leading, block_text}
use Rattle.text_parts_out.proofs.put_blocks.Given as goal

abbrev pub invariant-loop-at : goal.invariant-loop-at
invariant-loop-at l = Emits (fitting (block_text l.ws) (length l.initial.out) (leading l.ws (heads l.ws 0))) l.initial.out
    (fitting (block_text l.ws) (length l.initial.out - l.n) (leading l.ws (heads l.ws l.at))) (record { at = l.n; out = l.out })

abbrev pub decreases-loop-at : goal.decreases-loop-at
decreases-loop-at l = length l.ws - l.at
