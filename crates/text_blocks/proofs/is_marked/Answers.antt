-- By its bit. Assumes nothing.
use Rattle.std.proofs.Common.{refl}
use Rattle.text_blocks.specs.Blocks.{is_marked}
use Rattle.text_blocks.proofs.is_marked.Goals as goal

pub returns : goal.returns
unfolding is_marked
returns c = refl
