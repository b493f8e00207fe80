use native.Mathlib.Omega.{arith}
use mathlib.Core.Path.{sym, ◌∙◌}
use Rattle.text_tables.proofs.DebugLaws.{bar_none, bar_here, bar_later}
use Rattle.text_lines.proofs.RowLaws.{row-groups}
use Rattle.text_tables.proofs.first_bar.Goals as goal

pub returns-in_err-line : goal.returns-in_err-line
returns-in_err-line c =
    rw c.from_residual.ensures (sym c.loop-line.invariant.2 ∙ bar_none c.args.t.now c.loop-line.at c.in_err-line.ensures)

pub returns-then-begins_with : goal.returns-then-begins_with
returns-then-begins_with c =
    let i = c.loop-line.invariant in
    let r = bar_here _ _ _ _ _ c.in_ok-line.ensures (sym c.begins_with.ensures ∙ c.if-begins_with.true) in
    record { on = omega (arith, r.on, i.0); next = r.next; groups = r.groups ∙ i.1; after = sym i.2 ∙ r.after }

pub loop-line-preserved : goal.loop-line-preserved
loop-line-preserved c =
    let i = c.loop-line.invariant in
    let r = c.in_ok-line.ensures in
    (omega (arith, r.on, i.0), row-groups _ _ _ _ _ r ∙ i.1, sym (bar_later _ _ _ _ _ r (sym c.begins_with.ensures ∙ c.if-begins_with.false)) ∙ i.2)
