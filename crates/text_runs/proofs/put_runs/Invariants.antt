use mathlib.Core.Path.{◌≡◌}
use Prim.Native.Nat.{◌-◌}
use lib.ListN.{length}
use Rattle.text_runs.proofs.RunLaws.{Lining}
use Rattle.text_runs.proofs.put_runs.Given as goal

abbrev pub invariant-loop-run : goal.invariant-loop-run
invariant-loop-run l = Lining l.t l.rows l.initial.out l.out l.at l.row l.line × (length l.kept ≡ length l.initial.kept)

abbrev pub decreases-loop-run : goal.decreases-loop-run
decreases-loop-run l = length l.t - l.row
