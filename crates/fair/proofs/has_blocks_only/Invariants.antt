use mathlib.Core.Path.{◌≡◌}
use mathlib.Core.Option.{none}
use Prim.Native.Nat.{◌-◌}
use lib.ListN.{length}
use Rattle.format.specs.Basics.{given}
use Rattle.format.specs.ObjectFile.{ObjectFile}
use Rattle.format.specs.Words.{object_of}
use Rattle.format.specs.Fair.{is_fair_by}
use Rattle.source_info.proofs.RecordLaws.{Left}
use Rattle.fair.proofs.FairLaws.{blocks_only}
use Rattle.fair.proofs.has_blocks_only.Given as goal

abbrev pub invariant-loop-at : goal.invariant-loop-at
invariant-loop-at l = (h : ObjectFile) → object_of l.ws ≡ given h → h.source ≡ none → Left l.ws l.at blocks_only (is_fair_by none h)

abbrev pub decreases-loop-at : goal.decreases-loop-at
decreases-loop-at l = length l.ws - l.at
