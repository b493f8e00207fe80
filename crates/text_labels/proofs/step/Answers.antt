use mathlib.Core.Path.{refl}
use Rattle.text_labels.specs.Labels.{stepped}
use Rattle.text_labels.proofs.step.Goals as goal

pub returns-then-used : goal.returns-then-used
unfolding stepped
returns-then-used c = rw c.if-used.true refl

pub returns-else-used : goal.returns-else-used
unfolding stepped
returns-else-used c = rw c.if-used.false refl
