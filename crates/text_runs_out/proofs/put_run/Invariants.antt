use mathlib.Core.Path.{◌≡◌}
use Prim.Native.Nat.{◌-◌}
use lib.ListN.{length}
use Rattle.writing.proofs.Parts.{Emits}
use Rattle.measuring.specs.Fitting.{fitting}
use Rattle.text_lines_out.specs.Runs.{addresses_of, run_rows, rows_of}
use Rattle.text_runs_out.specs.Lines.{row_lines, start_past, itself}
use Rattle.text_runs_out.proofs.put_run.Given as goal

abbrev pub invariant-loop-k : goal.invariant-loop-k
invariant-loop-k l = Emits (fitting itself (length l.initial.out) (row_lines l.ws l.t (rows_of l.ws l.run) l.start)) l.initial.out
    (fitting itself (length l.initial.out - l.len)
    (row_lines l.ws l.t (run_rows l.run.first (addresses_of l.run.place l.ws) l.k (l.run.count - l.k)) l.next))
    (record { at = l.len; out = l.out })
    × (start_past l.ws l.t (run_rows l.run.first (addresses_of l.run.place l.ws) l.k (l.run.count - l.k)) l.next
    ≡ start_past l.ws l.t (rows_of l.ws l.run) l.start)
