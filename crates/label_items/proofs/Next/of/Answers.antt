use mathlib.Core.Path.{sym, ◌∙◌}
use Rattle.label_items.proofs.ChooseLaws.{by_less, by_equal, by_greater}
use Rattle.label_items.proofs.Next.of.Goals as goal

pub returns-in-Less : goal.returns-in-Less
returns-in-Less c = λ o e. by_less o (sym c.in-Less.is ∙ e)

pub returns-in-Equal : goal.returns-in-Equal
returns-in-Equal c = λ o e. by_equal o (sym c.in-Equal.is ∙ e)

pub returns-in-Greater : goal.returns-in-Greater
returns-in-Greater c = λ o e. by_greater o (sym c.in-Greater.is ∙ e)
