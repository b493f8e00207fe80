use lib.ListN.{drop}
use Rattle.writing.proofs.Parts.{Emits}
use Rattle.binary_write.specs.Files.{memory_part}
use Rattle.binary_write.proofs.put_memory.Given as goal

abbrev pub invariant-loop-w : goal.invariant-loop-w
invariant-loop-w l = Emits (memory_part l.words) l.initial.out (memory_part (drop l.w-index l.words)) (record { at = l.at; out = l.out })
