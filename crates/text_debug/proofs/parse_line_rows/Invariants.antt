use Rattle.std.proofs.Common.{◌≡◌, ◌-◌, ◌≤◌, map, length}
use Rattle.format.specs.TextReader.{parse_line_rows}
use Rattle.format.specs.Calls.{refusal_of}
use Rattle.text_tables.specs.Debug.{line_view}
use Rattle.text_debug.specs.LineRuns.{address_in, runs_over, runs_in}
use Rattle.text_debug.proofs.parse_line_rows.Given as goal

abbrev pub invariant-loop-line : goal.invariant-loop-line
invariant-loop-line l = (l.i ≤ l.at) × (l.s.count ≤ l.i) × (refusal_of (parse_line_rows l.i (line_view l.t l.at).0) ≡ refusal_of (parse_line_rows 0 (line_view l.t l.from).0))
    × (runs_over l.s (map address_in (line_view l.t l.at).0) ≡ runs_in (line_view l.t l.from).0)

abbrev pub decreases-loop-line : goal.decreases-loop-line
decreases-loop-line l = length l.t - l.at
