use mathlib.Core.List.{List, flat_map}
use Prim.Native.Nat.{◌-◌}
use lib.ListN.{length}
use Rattle.format.specs.Records.{Record}
use Rattle.format.specs.Binary.{record_bytes}
use Rattle.writing.proofs.Parts.{Emits}
use Rattle.binary_measure.specs.Measured.{bytes_in}
use Rattle.binary_measure.proofs.WalkLaws.{From}
use Rattle.binary_write.proofs.put_records.Given as goal

abbrev pub invariant-loop-at : goal.invariant-loop-at
invariant-loop-at l = (left : List Record) × From l.object l.at left × Emits (bytes_in l.object) l.initial.out (flat_map record_bytes left) (record { at = l.o; out = l.out })

abbrev pub decreases-loop-at : goal.decreases-loop-at
decreases-loop-at l = length l.object - l.at
