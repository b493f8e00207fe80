use mathlib.Core.Path.{◌≡◌}
use Prim.Native.Nat.{◌-◌, ◌≤◌}
use lib.ListN.{length}
use Rattle.format.specs.Basics.{need}
use Rattle.format.specs.TextReader.{parse_linker_group}
use Rattle.format.specs.Records.{empty_object}
use Rattle.text_tables.specs.Reads.{read_from}
use Rattle.text_lines.specs.Groups.{parts_from, group_view}
use Rattle.text_linker.specs.Linker.{linker_in}
use Rattle.format.specs.Calls.{refusal_of}
use Rattle.text_linker.proofs.parse_linker_table.Given as goal

abbrev pub invariant-loop-next : goal.invariant-loop-next
invariant-loop-next l = (l.at ≤ l.i) × ((parts_from l.t l.i).groups ≡ (parts_from l.t l.at).groups) × (refusal_of (need 26 (read_from linker_in (group_view l.t) l.i)) ≡ refusal_of (parse_linker_group empty_object (parts_from l.t l.at).before))

abbrev pub decreases-loop-next : goal.decreases-loop-next
decreases-loop-next l = length l.t - l.i
