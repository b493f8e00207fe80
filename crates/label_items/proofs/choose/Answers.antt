use Rattle.label_items.proofs.ChooseLaws.{chosen_none, chosen-start, chosen-symbol, chosen_both}
use Rattle.label_items.proofs.choose.Goals as goal

pub returns-then-starts : goal.returns-then-starts
returns-then-starts c = chosen-start _ _ _ c.if-not-symbols.true c.if-starts.true

pub returns-else-starts : goal.returns-else-starts
returns-else-starts c = chosen_none _ _ _ c.if-not-symbols.true c.if-starts.false

pub returns-then-not-starts : goal.returns-then-not-starts
returns-then-not-starts c = chosen-symbol _ _ _ c.if-not-symbols.false c.if-not-starts.true

pub returns : goal.returns
returns c = chosen_both _ _ _ _ c.if-not-symbols.false c.if-not-starts.false (c.of.ensures _ c.compare_names.ensures)
