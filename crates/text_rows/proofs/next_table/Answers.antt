use mathlib.Core.Path.{sym, ap, ◌∙◌}
use borrow.Author.Tests.{eqb-true, eqb-false}
use Rattle.std.specs.Prelude.{Some}
use Rattle.text_rows.proofs.StepLaws.{passing_on, table_at, next-head, no_head, refused_head}
use Rattle.text_rows.proofs.next_table.Goals as goal

pub returns-then-is_of : goal.returns-then-is_of
returns-then-is_of c =
    table_at _ _ _ _ _ c.loop-head.invariant c.end_of_group.ensures _ _ (next-head _ _ _ _ c.next_head.ensures (ap Some (sym c.in_ok-head.was) ∙ c.in_ok-ok.ensures.value)) _
    (eqb-true _ _ (sym c.is_of.ensures ∙ c.if-is_of.true)) c.first_row.ensures

pub loop-head-preserved : goal.loop-head-preserved
loop-head-preserved c =
    passing_on _ _ _ _ _ c.loop-head.invariant c.end_of_group.ensures _ _ (next-head _ _ _ _ c.next_head.ensures (ap Some (sym c.in_ok-head.was) ∙ c.in_ok-ok.ensures.value))
    (eqb-false _ _ (sym c.is_of.ensures ∙ c.if-is_of.false))

pub returns-in_err-ok : goal.returns-in_err-ok
returns-in_err-ok c =
    rw c.from_residual.ensures (refused_head _ _ _ _ _ c.loop-head.invariant c.end_of_group.ensures _ c.next_head.ensures (sym c.in_err-ok.ensures.value))

pub returns-in_err-head : goal.returns-in_err-head
returns-in_err-head c =
    rw c.from_residual-in_err-head.ensures
    (no_head _ _ _ _ _ c.loop-head.invariant c.end_of_group.ensures _ c.next_head.ensures (sym (ap Some (sym c.in_err-head.was) ∙ c.in_ok-ok.ensures.value)))
