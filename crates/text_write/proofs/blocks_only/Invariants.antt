use Prim.Native.Nat.{◌-◌}
use lib.ListN.{length}
use Rattle.format.specs.TextWriter.{blocks_only}
use Rattle.source_info.proofs.RecordLaws.{Left}
use Rattle.text_write.specs.Tables.{object_in}
use Rattle.text_write.proofs.blocks_only.Given as goal

abbrev pub invariant-loop-at : goal.invariant-loop-at
invariant-loop-at l = Left l.ws l.at blocks_only (blocks_only (object_in l.ws))

abbrev pub decreases-loop-at : goal.decreases-loop-at
decreases-loop-at l = length l.ws - l.at
