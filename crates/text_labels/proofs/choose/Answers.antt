use mathlib.Core.Path.{ap₂, ◌∙◌}
use mathlib.Core.List.{List}
use Prim.Native.Nat.{ℕ}
use Rattle.format.specs.Sorted.{order}
use Rattle.gather.specs.Tags.{as_cmp}
use Rattle.gather.proofs.CompareLaws.{order_as_cmp}
use Rattle.label_items.proofs.ChooseLaws.{chosen_none, chosen-start, chosen-symbol, chosen_both}
use Rattle.text_labels.proofs.choose.Goals as goal

pub returns-then-starts : goal.returns-then-starts
returns-then-starts c = chosen-start _ _ _ c.if-not-symbols.true c.if-starts.true

pub returns-else-starts : goal.returns-else-starts
returns-else-starts c = chosen_none _ _ _ c.if-not-symbols.true c.if-starts.false

pub returns-then-not-starts : goal.returns-then-not-starts
returns-then-not-starts c = chosen-symbol _ _ _ c.if-not-symbols.false c.if-not-starts.true

pub returns : goal.returns
returns c = chosen_both _ _ _ _ c.if-not-symbols.false c.if-not-starts.false (c.of.ensures _ (c.cmp.ensures ∙ order_as_cmp _ _ ∙ ap₂ (λ (x y : List ℕ). as_cmp (order x y)) c.cell_at.ensures c.cell_at-2.ensures))
