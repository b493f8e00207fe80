use mathlib.Core.Path.{◌≡◌}
use Prim.Native.Nat.{◌-◌, ◌≤◌}
use lib.ListN.{length}
use Rattle.format.specs.Basics.{need}
use Rattle.format.specs.TextReader.{parse_label_table}
use Rattle.format.specs.Records.{empty_object}
use Rattle.text_tables.specs.Reads.{read_from}
use Rattle.format.specs.Calls.{refusal_of}
use Rattle.text_tables.specs.Debug.{label_view}
use Rattle.text_tables.specs.Labels.{label_in}
use Rattle.text_tables.proofs.parse_label_table.Given as goal

abbrev pub invariant-loop-next : goal.invariant-loop-next
invariant-loop-next l = (l.at ≤ l.i) × ((label_view l.t l.i).1 ≡ (label_view l.t l.at).1) × (l.i ≤ length l.t) × (refusal_of (need 26 (read_from label_in (label_view l.t) l.i)) ≡ refusal_of (parse_label_table empty_object (label_view l.t l.at).0))

abbrev pub decreases-loop-next : goal.decreases-loop-next
decreases-loop-next l = length l.t - l.i
