-- The position that the bytes from place i on give, in the line that has begun, stays that of the index. Assumes nothing.
use native.Mathlib.Omega.{arith}
use mathlib.Core.Path.{ap, ◌∙◌}
use Prim.Native.Nat.{ℕ, ◌+◌}
use lib.ListN.{drop}
use Rattle.format.specs.Source.{Position}
use Rattle.source_info.specs.Passing.{pos_from}
use Rattle.source_info.proofs.LineLaws.{pos_start, pos_other, pos_next, pos_stop, pos_past}
use Rattle.byte_positions.proofs.position_of.Goals as goal
use Rattle.byte_positions.proofs.position_of.Goals.{else-source-i-eq10, then-source-i-eq10}

pub loop-i-init : goal.loop-i-init
loop-i-init c =
    let a = c.args in
    (omega arith, omega arith, omega arith, omega arith, pos_start a.index a.source.now)

pub returns-then-source-i : goal.returns-then-source-i
returns-then-source-i c =
    let l = c.loop-i in
    let a = c.args in
    pos_past a.index l.line l.start l.i a.source.now c.if-source-i.true c.loop-i-test.true ∙ l.invariant.4

pub loop-i-preserved : goal.loop-i-preserved
loop-i-preserved c =
    let l = c.loop-i in
    let a = c.args in
    let s = a.source.now in
    let at : ℕ → ℕ → Position = λ line start. pos_from a.index line start (l.i + 1) (drop (l.i + 1) s) in
    elim c.if-source-i-eq10.branch [
      | then-source-i-eq10 w ↦ (
        omega arith,
        omega arith,
        omega (arith, w.line-is),
        omega (arith, w.start-is),
        ap (λ k. at k c.if-source-i-eq10.start) w.line-is ∙ ap (at (l.line + 1)) w.start-is
            ∙ pos_next a.index l.line l.start l.i s c.if-source-i.false w.if-source-i-eq10.true c.loop-i-test.true ∙ l.invariant.4,
      )
      | else-source-i-eq10 w ↦ (
        omega arith,
        omega arith,
        omega (arith, w.line-is),
        omega (arith, w.start-is),
        ap (λ k. at k c.if-source-i-eq10.start) w.line-is ∙ ap (at l.line) w.start-is
            ∙ pos_other a.index l.line l.start l.i s c.if-source-i.false w.if-source-i-eq10.false ∙ l.invariant.4,
      )
    ]

pub returns : goal.returns
returns c =
    let l = c.loop-i in
    let a = c.args in
    pos_stop a.index l.line l.start l.i (drop l.i a.source.now) c.loop-i-test.false ∙ l.invariant.4
