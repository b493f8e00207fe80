use Prim.Native.Nat.{◌-◌}
use lib.ListN.{length}
use Rattle.object.specs.Bodies.{body_at}
use Rattle.writing.proofs.Parts.{Emits}
use Rattle.text_parts_out.specs.Parts.{memory_lines}
use Rattle.text_parts_out.proofs.put_memory_lines.Given as goal

abbrev pub invariant-loop-out : goal.invariant-loop-out
invariant-loop-out l = Emits (memory_lines (body_at l.ws l.at)) l.initial.out (memory_lines (body_at l.ws l.i)) (record { at = l.n; out = l.out })

abbrev pub decreases-loop-out : goal.decreases-loop-out
decreases-loop-out l = length l.ws - l.i
