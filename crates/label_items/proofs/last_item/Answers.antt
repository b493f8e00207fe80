use Rattle.label_items.proofs.ItemLaws.{item_past, item_last}
use Rattle.label_items.proofs.last_item.Goals as goal

pub returns-then-items-i : goal.returns-then-items-i
returns-then-items-i c = let a = c.args in item_past a.items.now a.i c.if-items-i.true

pub returns : goal.returns
returns c =
    item_last c.args.items.now c.args.i _ _ _ c.requires c.place_at.ensures c.place_at-2.ensures c.place_at-3.ensures
