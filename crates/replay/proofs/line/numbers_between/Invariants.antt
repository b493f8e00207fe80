use Rattle.std.proofs.Common.{◌≡◌, length}
use Rattle.replay.proofs.line.numbers_between.Given as goal

abbrev pub invariant-loop-n : goal.invariant-loop-n
invariant-loop-n g l = length l.out ≡ length l.initial.out
