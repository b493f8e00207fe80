use mathlib.Core.Path.{◌≡◌}
use Prim.Native.Nat.{◌-◌, ◌≤◌}
use lib.ListN.{length}
use Rattle.format.specs.TextReader.{split_at_bar}
use Rattle.text_lines.specs.Groups.{parts_from}
use Rattle.text_tables.proofs.first_bar.Given as goal

abbrev pub invariant-loop-line : goal.invariant-loop-line
invariant-loop-line l = (l.from ≤ l.at) × ((parts_from l.t l.at).groups ≡ (parts_from l.t l.from).groups) × ((split_at_bar (parts_from l.t l.at).before).after ≡ (split_at_bar (parts_from l.t l.from).before).after)

abbrev pub decreases-loop-line : goal.decreases-loop-line
decreases-loop-line l = length l.t - l.at
