use mathlib.Core.Path.{◌≡◌}
use Prim.Native.Nat.{◌-◌}
use lib.ListN.{length}
use Rattle.writing.proofs.Parts.{Emits}
use Rattle.measuring.specs.Fitting.{fitting}
use Rattle.label_order.specs.Order.{left}
use Rattle.label_tables.specs.Tables.{line_of}
use Rattle.label_windows.specs.Fits.{places_of}
use Rattle.label_windows.proofs.put_windows.Given as goal

abbrev pub invariant-loop-win : goal.invariant-loop-win
invariant-loop-win l = (length l.win ≡ length l.initial.win)
    × Emits (fitting (line_of l.t l.ws) (length l.initial.out) (places_of l.t l.ws)) l.initial.out (fitting (line_of l.t l.ws) (length l.initial.out - l.at) (left l.ws l.labels))
    (record { at = l.at; out = l.out })

abbrev pub decreases-loop-win : goal.decreases-loop-win
decreases-loop-win l = length (left l.ws l.labels)
