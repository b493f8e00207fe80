-- The text is blank from the place on. Assumes nothing.
use native.Mathlib.Omega.{arith}
use mathlib.Core.Path.{◌≡◌, sym, ◌∙◌}
use mathlib.Core.Bool.{true}
use Prim.Native.Nat.{◌-◌, ◌≤◌, ◌<◌}
use Rattle.trim.proofs.TrimLaws.{blank_at, blank_end, back_stop, back_on}
use Rattle.trim.proofs.white_end.Goals as goal
use Rattle.trim.proofs.white_end.Goals.{Else-n-eq0}

-- the character before the place
back : (c : Else-n-eq0) → (0 < c.white_before-n.result) ×
    (c.white_before-n.result ≤ c.loop-end.end) ×
    (blank_at c.args.s.now (c.loop-end.end - c.white_before-n.result) ≡ true)
back c =
    let loop = c.loop-end in
    let h : 0 < c.white_before-n.result = omega arith in
    let b = back_on c.args.s.now loop.end loop.invariant.0 loop.invariant.1
    c.white_before-n.result c.white_before-n.ensures h in
    (h, b.0, b.1)

pub returns-then-n-eq0 : goal.returns-then-n-eq0
returns-then-n-eq0 c =
    let loop = c.loop-end in
    (loop.invariant.0, back_stop _ _ loop.invariant.0 loop.invariant.1 (sym c.if-n-eq0.true ∙ c.white_before-n.ensures))

pub loop-end-init : goal.loop-end-init
loop-end-init c = (omega arith, blank_end c.args.s.now)

pub overflow_sub-end : goal.overflow_sub-end
overflow_sub-end c = omega (arith, (back c).1)

pub loop-end-smaller : goal.loop-end-smaller
loop-end-smaller c = omega (arith, (back c).0, (back c).1)

pub loop-end-preserved : goal.loop-end-preserved
loop-end-preserved c = (omega (arith, c.loop-end.invariant.0), (back c).2)
