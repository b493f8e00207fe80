use native.Mathlib.Omega.{arith}
use Prim.Native.Nat.{◌+◌, ◌-◌}
use mathlib.Core.Path.{◌≡◌, sym, subst, ◌∙◌}
use Rattle.text_rows.specs.Steps.{Headless}
use Rattle.text_rows.proofs.SkipLaws.{dot_there, dot_end, headless_next}
use Rattle.text_rows.proofs.next_dot.Goals as goal

pub loop-i-init : goal.loop-i-init
loop-i-init c =
    let h = c.headless_blocks-i.result in
    let e : h ≡ h + 1 - 1 = omega arith in
    (omega arith, subst (Headless c.args.t.now c.args.at) e c.headless_blocks-i.ensures.2)

pub returns-then-is_head : goal.returns-then-is_head
returns-then-is_head c = dot_there _ _ _ c.loop-i.invariant c.loop-i-test.true (sym c.if-is_head.true ∙ c.is_head.ensures)

pub loop-i-preserved : goal.loop-i-preserved
loop-i-preserved c = (omega arith, headless_next _ _ _ c.loop-i.invariant (sym c.if-is_head.false ∙ c.is_head.ensures))

pub returns : goal.returns
returns c = dot_end _ _ _ c.loop-i.invariant c.requires c.loop-i-test.false
