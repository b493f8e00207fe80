use Prim.Native.Nat.{◌-◌}
use lib.ListN.{length, drop}
use Rattle.writing.proofs.Parts.{Emits}
use Rattle.measuring.specs.Fitting.{fitting}
use Rattle.label_tables.specs.Tables.{line_of}
use Rattle.label_windows.proofs.put_rows.Given as goal

abbrev pub invariant-loop-p : goal.invariant-loop-p
invariant-loop-p l = Emits (fitting (line_of l.t l.ws) (length l.initial.out) l.win) l.initial.out (fitting (line_of l.t l.ws) (length l.initial.out - l.at) (drop l.p-index l.win))
    (record { at = l.at; out = l.out })
