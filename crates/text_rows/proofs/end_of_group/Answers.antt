use Rattle.text_rows.proofs.SkipLaws.{group_past, group_dot, group_next}
use Rattle.text_rows.proofs.end_of_group.Goals as goal
use Rattle.text_rows.proofs.end_of_group.Goals.{then-t-from-via-then-t-from, then-t-from-via-else-t-from+then-t-from-eq46}

pub returns-then-t-from : goal.returns-then-t-from
returns-then-t-from c =
    elim c.then-t-from.branch [ then-t-from-via-then-t-from w ↦ group_past _ _ w.if-t-from.true | then-t-from-via-else-t-from+then-t-from-eq46 w ↦ group_dot _ _ w.if-t-from.false w.if-t-from-eq46.true ]

pub returns : goal.returns
returns c = group_next _ _ _ c.if-t-from-eq46.false c.next_dot.ensures
