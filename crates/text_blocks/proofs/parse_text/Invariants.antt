use Rattle.std.proofs.Common.{◌-◌, length}
use Rattle.text_blocks.proofs.BlockLaws.{Marking}
use Rattle.text_blocks.proofs.parse_text.Given as goal

abbrev pub invariant-loop-block : goal.invariant-loop-block
invariant-loop-block l = Marking l.t l.at l.words l.initial.seen l.i l.n l.seen

abbrev pub decreases-loop-block : goal.decreases-loop-block
decreases-loop-block l = length l.t - l.i
