-- Place by place. Assumes nothing.
use native.Mathlib.Omega.{arith}
use mathlib.Core.Path.{sym, ◌∙◌}
use Rattle.text_cells.proofs.CellLaws.{cut_at, cut_none, bars_end}
use Rattle.text_cells.proofs.find_divider.Goals as goal

pub returns-then-is_divider : goal.returns-then-is_divider
returns-then-is_divider c =
    let t = c.loop-i-test.true in
    (omega (arith, t), cut_at c.args.s.now c.loop-i.i (omega (arith, t)) c.loop-i.invariant (sym c.is_divider.ensures ∙ c.if-is_divider.true))

pub returns : goal.returns
returns c = cut_none _ (bars_end _ _ c.loop-i.invariant (omega (arith, c.loop-i-test.false, c.saturating_sub-i-end.ensures)))
