use mathlib.Core.Path.{ap₂, ◌∙◌}
use Rattle.format.specs.Sorted.{order}
use Rattle.gather.specs.Tags.{as_cmp}
use Rattle.gather.proofs.CompareLaws.{order_as_cmp}
use Rattle.label_items.proofs.compare_names.Goals as goal

pub returns : goal.returns
returns c = c.cmp.ensures ∙ order_as_cmp _ _ ∙ ap₂ (λ x y. as_cmp (order x y)) c.name_of.ensures c.name_of-2.ensures
