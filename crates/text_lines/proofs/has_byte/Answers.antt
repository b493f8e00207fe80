-- A byte more. Assumes nothing.
use native.Mathlib.Omega.{arith}
use mathlib.Core.Path.{◌≡◌, sym, ap, ◌∙◌}
use mathlib.Core.Bool.{true≢false}
use Prim.Native.Nat.{ℕ, ◌+◌, min}
use lib.Dec.{ltb}
use lib.ListN.{length, get_or}
use borrow.Author.Tests.{ltb-true, ltb-false}
use Rattle.text_lines.proofs.TestLaws.{by_test}
use Rattle.text_lines.proofs.has_byte.Goals as goal
use Rattle.text_lines.proofs.has_byte.Goals.{else-s-i, then-s-i}

pub loop-i-preserved : goal.loop-i-preserved
loop-i-preserved c =
    let l = c.loop-i in
    let s = c.args.s.now in (
      elim c.if-s-i.branch [
        | then-s-i w ↦ λ e. absurd (true≢false (sym w.found-is ∙ e))
        | else-s-i w ↦ λ e j p q x.
            by_test (ltb j l.i)
            (λ u. l.invariant.0 (sym w.found-is ∙ e) j p (ltb-true j l.i u) x)
            (λ u. let z : j ≡ l.i = omega (arith, q, ltb-false j l.i u) in w.if-s-i.false (sym (ap (λ (k : ℕ). get_or s k 0) z) ∙ x))
      ],
      elim c.if-s-i.branch [
        | then-s-i w ↦ λ e. ((l.i, l.auto.i, omega arith, w.if-s-i.true), omega (arith, c.loop-i-test.true))
        | else-s-i w ↦ λ e. let h = (l.invariant.1 (sym w.found-is ∙ e)).0 in ((h.0, h.1, omega (arith, h.2), h.3), omega (arith, c.loop-i-test.true))
      ],
    )

pub returns : goal.returns
returns c =
    let l = c.loop-i in
    let e : c.min-end.result ≡ min (c.args.at + c.args.n) (length c.args.s.now) = omega (arith, c.min-end.ensures, c.saturating_add.ensures) in (
      λ f i p q. l.invariant.0 f i p (omega (arith, e, q, c.loop-i-test.false)),
      λ f. let h = l.invariant.1 f in (h.0.0, h.0.1, omega (arith, e, h.1, h.0.2), h.0.3),
    )
