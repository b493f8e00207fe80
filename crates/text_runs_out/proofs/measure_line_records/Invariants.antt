use mathlib.Core.Path.{◌≡◌}
use Prim.Native.Nat.{◌-◌}
use lib.ListN.{length}
use Rattle.measuring.specs.Room.{less_part}
use Rattle.text_lines_out.specs.Merge.{smaller}
use Rattle.text_parts_out.specs.Parts.{heads}
use Rattle.text_runs_out.specs.Lines.{row_lines, joined, placed_rows}
use Rattle.text_runs_out.proofs.measure_line_records.Given as goal

abbrev pub invariant-loop-at : goal.invariant-loop-at
invariant-loop-at l = less_part l.passed.left (joined (row_lines l.ws l.t (placed_rows l.ws l.t.lines l.t.wraps l.passed.done (heads l.ws l.at)) l.passed.start))
    ≡ less_part l.room (joined (row_lines l.ws l.t (placed_rows l.ws l.t.lines l.t.wraps (smaller l.t.wraps l.t.lines) (heads l.ws l.from)) l.start))

abbrev pub decreases-loop-at : goal.decreases-loop-at
decreases-loop-at l = length l.ws - l.at
