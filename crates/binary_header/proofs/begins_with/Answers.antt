-- Assumes nothing.
use mathlib.Core.Path.{◌∙◌}
use Rattle.binary_header.proofs.PrefixLaws.{starts_begins}
use Rattle.binary_header.proofs.begins_with.Goals as goal

pub returns : goal.returns
returns c = c.starts_with.ensures.value ∙ starts_begins c.args.front.now c.args.s.now
