use Prim.Native.Nat.{◌-◌}
use Rattle.text_rows.proofs.StepLaws.{Skipping}
use Rattle.text_rows.proofs.skip_rows.Given as goal

abbrev pub invariant-loop-passed : goal.invariant-loop-passed
invariant-loop-passed l = Skipping l.t l.from l.n l.at (l.n - l.passed)
