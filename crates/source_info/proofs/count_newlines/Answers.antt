use native.Mathlib.Omega.{arith}
use mathlib.Core.Path.{sym, ◌∙◌}
use Prim.Native.Nat.{◌≤◌, ◌<◌}
use lib.ListN.{length}
use Rattle.format.proofs.Laws.{newlines-yes, newlines_no, newlines-end}
use Rattle.object.specs.Texts.{text_bytes}
use Rattle.object.proofs.SpanLaws.{whole-within}
use Rattle.word_chars.proofs.CharLaws.{byte_is, size_is}
use Rattle.source_info.proofs.count_newlines.Goals as goal
use Rattle.source_info.proofs.count_newlines.Goals.{else-text_byte-eq10, then-text_byte-eq10}

pub loop-i-init : goal.loop-i-init
loop-i-init c =
    let a = c.args in
    let e = c.newlines_in_words-count.ensures in
    (omega (arith, whole-within a.ws.now a.at a.n, c.whole_words-words.ensures), e.0, e.1)

pub overflow_step-i : goal.overflow_step-i
overflow_step-i c =
    let a = c.args in
    omega (arith, whole-within a.ws.now a.at a.n, c.whole_words-words.ensures)

pub loop-i-preserved : goal.loop-i-preserved
loop-i-preserved c =
    let a = c.args in
    let text = text_bytes a.ws.now a.at a.n in
    let i = c.loop-i.i in
    let h : i < length text = omega (arith, size_is a.ws.now a.at a.n, c.loop-i-test.true) in
    let inv = c.loop-i.invariant in
    let byte = c.text_byte.ensures ∙ byte_is a.ws.now a.at a.n i c.loop-i-test.true in
    elim c.if-text_byte-eq10.branch [
      | then-text_byte-eq10 w ↦ (
        omega (arith, c.loop-i-test.true),
        omega (arith, w.count-is, inv.1),
        omega (arith, w.count-is, inv.2, newlines-yes text i h (sym byte ∙ w.if-text_byte-eq10.true)),
      )
      | else-text_byte-eq10 w ↦ (
        omega (arith, c.loop-i-test.true),
        omega (arith, w.count-is, inv.1),
        omega (arith, w.count-is, inv.2, newlines_no text i h (λ z. w.if-text_byte-eq10.false (byte ∙ z))),
      )
    ]

pub returns : goal.returns
returns c =
    let a = c.args in
    let text = text_bytes a.ws.now a.at a.n in
    let inv = c.loop-i.invariant in
    let l : length text ≤ c.loop-i.i = omega (arith, size_is a.ws.now a.at a.n, c.loop-i-test.false) in
    (omega (arith, inv.2, newlines-end text c.loop-i.i l), omega (arith, inv.0, inv.1))
