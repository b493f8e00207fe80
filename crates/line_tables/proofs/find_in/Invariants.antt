use mathlib.Core.Path.{◌≡◌}
use Prim.Native.Nat.{◌-◌}
use lib.ListN.{length}
use Rattle.format.specs.Basics.{given}
use Rattle.format.specs.ObjectFile.{ObjectFile}
use Rattle.format.specs.Words.{object_of}
use Rattle.format.specs.Source.{find_line}
use Rattle.source_info.proofs.RecordLaws.{Left}
use Rattle.line_tables.proofs.TableLaws.{find_in}
use Rattle.line_tables.proofs.find_in.Given as goal

abbrev pub invariant-loop-at : goal.invariant-loop-at
invariant-loop-at l = (h : ObjectFile) → object_of l.ws ≡ given h → Left l.ws l.at (find_in l.a) (find_line h.line_blocks l.a)

abbrev pub decreases-loop-at : goal.decreases-loop-at
decreases-loop-at l = length l.ws - l.at
