use lib.ListN.{drop}
use Rattle.writing.proofs.Parts.{Emits}
use Rattle.binary_write.specs.Files.{address_part}
use Rattle.binary_write.proofs.put_addresses.Given as goal

abbrev pub invariant-loop-w : goal.invariant-loop-w
invariant-loop-w l = Emits (address_part l.words) l.initial.out (address_part (drop l.w-index l.words)) (record { at = l.at; out = l.out })
