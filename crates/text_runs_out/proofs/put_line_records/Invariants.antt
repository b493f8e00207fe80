use Prim.Native.Nat.{◌-◌}
use lib.ListN.{length}
use Rattle.writing.proofs.Parts.{Emits}
use Rattle.measuring.specs.Fitting.{fitting}
use Rattle.text_lines_out.specs.Merge.{smaller}
use Rattle.text_parts_out.specs.Parts.{heads}
use Rattle.text_runs_out.specs.Lines.{row_lines, itself, placed_rows}
use Rattle.text_runs_out.proofs.put_line_records.Given as goal

abbrev pub invariant-loop-at : goal.invariant-loop-at
invariant-loop-at l = Emits (fitting itself (length l.initial.out)
    (row_lines l.ws l.t (placed_rows l.ws l.t.lines l.t.wraps (smaller l.t.wraps l.t.lines) (heads l.ws l.from)) l.start)) l.initial.out
    (fitting itself (length l.initial.out - l.len) (row_lines l.ws l.t (placed_rows l.ws l.t.lines l.t.wraps l.done (heads l.ws l.at)) l.next))
    (record { at = l.len; out = l.out })

abbrev pub decreases-loop-at : goal.decreases-loop-at
decreases-loop-at l = length l.ws - l.at
