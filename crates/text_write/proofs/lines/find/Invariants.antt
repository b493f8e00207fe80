use mathlib.Core.Path.{◌≡◌}
use Prim.Native.Nat.{◌-◌}
use lib.ListN.{length}
use Rattle.source_info.proofs.RecordLaws.{Left}
use Rattle.object.specs.Bodies.{kind_number}
use Rattle.text_write.specs.Tables.{object_in}
use Rattle.text_write.proofs.lines.find.Given as goal

abbrev pub invariant-loop-at : goal.invariant-loop-at
invariant-loop-at l = (kind_number l.k ≡ 4 → Left l.ws l.at (λ h. h.source) (object_in l.ws).source) × (kind_number l.k ≡ 5 → Left l.ws l.at (λ h. h.relocations) (object_in l.ws).relocations)

abbrev pub decreases-loop-at : goal.decreases-loop-at
decreases-loop-at l = length l.ws - l.at
