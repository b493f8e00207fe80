use mathlib.Core.Path.{◌≡◌}
use Prim.Native.Nat.{◌-◌}
use lib.ListN.{length}
use Rattle.format.specs.Basics.{given}
use Rattle.format.specs.ObjectFile.{ObjectFile}
use Rattle.format.specs.Words.{object_of}
use Rattle.fair.specs.FairRecords.{fair_parts}
use Rattle.fair.proofs.FairLaws.{Going}
use Rattle.fair.proofs.fair_records.Given as goal

abbrev pub invariant-loop-at : goal.invariant-loop-at
invariant-loop-at l = (h : ObjectFile) → object_of l.ws ≡ given h → Going l.ws l.at l.last l.least (fair_parts l.last 0 h)

abbrev pub decreases-loop-at : goal.decreases-loop-at
decreases-loop-at l = length l.ws - l.at
