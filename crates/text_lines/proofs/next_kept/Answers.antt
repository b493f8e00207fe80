use native.Mathlib.Omega.{arith}
use mathlib.Core.Path.{sym, ◌∙◌}
use Rattle.text_lines.specs.Lines.{kept}
use Rattle.text_lines.proofs.LineLaws.{kept-yes, kept_no, kept-done, earlier}
use Rattle.text_lines.proofs.next_kept.Goals as goal

pub returns-in_err-line : goal.returns-in_err-line
returns-in_err-line c = rw c.from_residual.ensures (sym c.loop-line.invariant.1 ∙ kept-done c.args.s.now c.loop-line.at c.in_err-line.ensures)

pub returns-then-is_kept : goal.returns-then-is_kept
returns-then-is_kept c =
    let i = c.loop-line.invariant in
    earlier kept _ _ _ _ _ _ i.0 i.1 (kept-yes _ _ _ _ _ c.in_ok-line.ensures (sym c.is_kept.ensures ∙ c.if-is_kept.true))

pub loop-line-preserved : goal.loop-line-preserved
loop-line-preserved c =
    let i = c.loop-line.invariant in
    let l = c.in_ok-line.ensures in
    (omega (arith, l.on, i.0), sym (kept_no _ _ _ _ _ l (sym c.is_kept.ensures ∙ c.if-is_kept.false)) ∙ i.1)
