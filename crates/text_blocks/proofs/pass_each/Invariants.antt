use Rattle.std.proofs.Common.{◌-◌}
use Rattle.text_blocks.proofs.BlockLaws.{Passing}
use Rattle.text_blocks.proofs.pass_each.Given as goal

abbrev pub invariant-loop-passed : goal.invariant-loop-passed
invariant-loop-passed l = Passing l.t l.at l.n l.i (l.n - l.passed)
