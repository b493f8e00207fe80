use mathlib.Core.Path.{◌≡◌}
use Prim.Native.Nat.{◌-◌}
use Rattle.measuring.specs.Room.{less_part}
use Rattle.text_lines_out.specs.Runs.{addresses_of, run_rows, rows_of}
use Rattle.text_runs_out.specs.Lines.{row_lines, start_past, joined}
use Rattle.text_runs_out.proofs.measure_run.Given as goal

abbrev pub invariant-loop-k : goal.invariant-loop-k
invariant-loop-k l = (less_part l.rows.left (joined (row_lines l.ws l.t (run_rows l.run.first (addresses_of l.run.place l.ws) l.k (l.run.count - l.k)) l.rows.start))
    ≡ less_part l.room (joined (row_lines l.ws l.t (rows_of l.ws l.run) l.start)))
    × (start_past l.ws l.t (run_rows l.run.first (addresses_of l.run.place l.ws) l.k (l.run.count - l.k)) l.rows.start
    ≡ start_past l.ws l.t (rows_of l.ws l.run) l.start)
