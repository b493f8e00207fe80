use Prim.Native.Nat.{◌-◌}
use lib.ListN.{length}
use Rattle.text_runs.proofs.RunLaws.{Keeping}
use Rattle.text_runs.proofs.next_run.Given as goal

abbrev pub invariant-loop-line : goal.invariant-loop-line
invariant-loop-line l = Keeping l.t l.from l.at l.n l.initial.kept l.kept

abbrev pub decreases-loop-line : goal.decreases-loop-line
decreases-loop-line l = length l.t - l.at
