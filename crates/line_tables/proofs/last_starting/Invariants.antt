use mathlib.Core.Path.{◌≡◌}
use Prim.Native.Nat.{◌-◌}
use lib.ListN.{length}
use Rattle.format.specs.Basics.{given}
use Rattle.format.specs.ObjectFile.{ObjectFile}
use Rattle.format.specs.Words.{object_of}
use Rattle.format.specs.Source.{last_starting}
use Rattle.line_tables.specs.Tables.{placed_in, BeginsIn}
use Rattle.source_info.proofs.RecordLaws.{Left}
use Rattle.line_tables.proofs.TableLaws.{last_with}
use Rattle.line_tables.proofs.last_starting.Given as goal

abbrev pub invariant-loop-at : goal.invariant-loop-at
invariant-loop-at l = ((h : ObjectFile) → object_of l.ws ≡ given h → Left l.ws l.at (last_with l.line (placed_in l.ws l.last)) (last_starting l.line h.line_blocks))
    × BeginsIn l.ws l.line l.last

abbrev pub decreases-loop-at : goal.decreases-loop-at
decreases-loop-at l = length l.ws - l.at
