use Rattle.std.proofs.Common.{◌≡◌, ◌-◌, ◌≤◌, false, length}
use Rattle.text_lines.specs.Groups.{parts_from}
use Rattle.text_tables.proofs.DebugLaws.{last_bar}
use Rattle.text_debug.proofs.last_bar.Given as goal

abbrev pub invariant-loop-line : goal.invariant-loop-line
invariant-loop-line l = (l.from ≤ l.at) × ((parts_from l.t l.at).groups ≡ (parts_from l.t l.from).groups)
    × (last_bar l.bar (parts_from l.t l.at).before ≡ last_bar false (parts_from l.t l.from).before)

abbrev pub decreases-loop-line : goal.decreases-loop-line
decreases-loop-line l = length l.t - l.at
