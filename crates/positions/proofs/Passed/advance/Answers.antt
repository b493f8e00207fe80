use native.Mathlib.Omega.{arith}
use mathlib.Core.Path.{◌≡◌, refl, sym, ap, subst, ◌∙◌}
use mathlib.Core.Logic.{inl, inr}
use Prim.Native.Nat.{◌+◌, ◌<◌}
use lib.ListN.{length, drop}
use Rattle.object.specs.Texts.{text_bytes}
use Rattle.source_info.specs.Passing.{pos_from}
use Rattle.source_info.proofs.LineLaws.{pos_other, pos_next}
use Rattle.word_chars.proofs.CharLaws.{byte_is, size_is}
use Rattle.positions.specs.Pairs.{Passes}
use Rattle.positions.proofs.Passed.advance.Goals as goal
use Rattle.positions.proofs.Passed.advance.Goals.{else-text_byte-eq10, then-text_byte-eq10}

pub loop-i-init : goal.loop-i-init
loop-i-init c = let p = c.requires in (p.0, p.1, p.2, λ h. h, λ j h. refl)

pub returns-then-index-i : goal.returns-then-index-i
returns-then-index-i c =
    let inv = c.loop-i.invariant in
    record { within = inv.0; lines = inv.1; starts = inv.2; reached = inr c.if-index-i.true; back = inv.3; same = inv.4 }

pub loop-i-preserved : goal.loop-i-preserved
loop-i-preserved c =
    let a = c.args in
    let loop = c.loop-i in
    let inv = loop.invariant in
    let i = loop.i in
    let text = text_bytes a.ws.now a.at a.n in
    let within : i < length text = omega (arith, size_is a.ws.now a.at a.n, c.loop-i-test.true) in
    let byte = c.text_byte.ensures ∙ byte_is a.ws.now a.at a.n i c.loop-i-test.true in
    let rest = drop (i + 1) text in
    elim c.if-text_byte-eq10.branch [
      | then-text_byte-eq10 w ↦ (
        omega (arith, c.loop-i-test.true),
        omega (arith, w.line-is, inv.1),
        omega (arith, w.start-is),
        (λ h. omega (arith, c.if-index-i.false)),
        (λ j h. ap (λ k. pos_from j k c.if-text_byte-eq10.start (i + 1) rest) w.line-is ∙ ap (λ k. pos_from j (loop.line + 1) k (i + 1) rest) w.start-is
            ∙ pos_next j loop.line loop.start i text within (sym byte ∙ w.if-text_byte-eq10.true) (omega (arith, c.if-index-i.false)) ∙ inv.4 j h),
      )
      | else-text_byte-eq10 w ↦ (
        omega (arith, c.loop-i-test.true),
        omega (arith, w.line-is, inv.1),
        omega (arith, w.start-is, inv.2),
        (λ h. omega (arith, c.if-index-i.false)),
        (λ j h. ap (λ k. pos_from j k c.if-text_byte-eq10.start (i + 1) rest) w.line-is ∙ ap (λ k. pos_from j loop.line k (i + 1) rest) w.start-is
            ∙ pos_other j loop.line loop.start i text within (λ z. w.if-text_byte-eq10.false (byte ∙ z)) ∙ inv.4 j h),
      )
    ]

pub returns : goal.returns
returns c =
    let a = c.args in
    let loop = c.loop-i in
    let inv = loop.invariant in
    let e : loop.i ≡ a.n = omega (arith, inv.0, c.loop-i-test.false) in
    subst (λ i. Passes (text_bytes a.ws.now a.at a.n) a.n a.index a.self (record { i = i; line = loop.line; start = loop.start })) e
    (record { within = inv.0; lines = inv.1; starts = inv.2; reached = inl c.loop-i-test.false; back = inv.3; same = inv.4 })

pub overflow_add-line : goal.overflow_add-line
overflow_add-line c = omega arith

pub overflow_add-start : goal.overflow_add-start
overflow_add-start c = omega arith
