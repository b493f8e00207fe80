use native.Mathlib.Omega.{arith}
use mathlib.Core.Path.{◌≡◌, sym, ap, ◌∙◌}
use mathlib.Core.List.{List}
use Prim.Native.Nat.{ℕ, ◌+◌, ◌<◌}
use lib.ListN.{length, drop, get_or}
use Rattle.format.specs.Basics.{given}
use Rattle.object.specs.Texts.{text_bytes}
use Rattle.source_info.specs.Passing.{span_from}
use Rattle.source_info.proofs.LineLaws.{span-start, span-other, span_pass, span_stop, span-end, span-past}
use Rattle.word_chars.proofs.CharLaws.{byte_is, size_is}
use Rattle.line_spans.proofs.raw_line.Goals as goal
use Rattle.line_spans.proofs.raw_line.Goals.{After-loop-i, After-text_byte, else-text_byte-eq10, then-text_byte-eq10+else-left-eq0}

abbrev text : (c : After-text_byte) → List ℕ
text c = text_bytes c.args.ws.now c.args.at c.args.n

abbrev i : (c : After-text_byte) → ℕ
i c = c.loop-i.i

within : (c : After-text_byte) → (i c) < length (text c)
within c = omega (arith, size_is c.args.ws.now c.args.at c.args.n, c.loop-i-test.true)

byte : (c : After-text_byte) → c.text_byte.result ≡ get_or (text c) (i c) 0
byte c = c.text_byte.ensures ∙ byte_is c.args.ws.now c.args.at c.args.n (i c) c.loop-i-test.true

size : (l : After-loop-i) → length (text_bytes l.args.ws.now l.args.at l.args.n) ≡ l.loop-i.i
size l = omega (arith, size_is l.args.ws.now l.args.at l.args.n, l.loop-i-test.false, l.loop-i.invariant.0)

pub loop-i-init : goal.loop-i-init
loop-i-init c = (omega arith, omega arith, span-start _ _)

pub returns-then-left-eq0 : goal.returns-then-left-eq0
returns-then-left-eq0 c =
    let inv = c.loop-i.invariant in (
      span_stop _ _ _ (text (goal.at.returns-then-left-eq0 c).After-text_byte) (within (goal.at.returns-then-left-eq0 c).After-text_byte) (sym (byte (goal.at.returns-then-left-eq0 c).After-text_byte) ∙ c.if-text_byte-eq10.true) c.if-left-eq0.true ∙ inv.2,
      (omega (arith, inv.1), omega (arith, c.loop-i-test.true)),
    )

pub loop-i-preserved : goal.loop-i-preserved
loop-i-preserved c =
    let k = (goal.at.loop-i-preserved c).After-text_byte in
    let loop = c.loop-i in
    let p : ℕ = c.loop-i.i in
    let s : List ℕ = text k in
    let rest = drop (p + 1) s in
    elim c.if-text_byte-eq10.branch [
      | then-text_byte-eq10+else-left-eq0 w ↦ (
        omega (arith, c.loop-i-test.true),
        omega (arith, w.start-is),
        ap (λ k. span_from k (p + 1) c.if-text_byte-eq10.left rest) w.start-is ∙ ap (λ k. span_from (p + 1) (p + 1) k rest) w.left-is
            ∙ span_pass loop.start p loop.left s (within k) (sym (byte k) ∙ w.if-text_byte-eq10.true) w.if-left-eq0.false ∙ loop.invariant.2,
      )
      | else-text_byte-eq10 w ↦ (
        omega (arith, c.loop-i-test.true),
        omega (arith, w.start-is, loop.invariant.1),
        ap (λ k. span_from k (p + 1) c.if-text_byte-eq10.left rest) w.start-is ∙ ap (λ k. span_from loop.start (p + 1) k rest) w.left-is
            ∙ span-other loop.start p loop.left s (within k) (λ z. w.if-text_byte-eq10.false (byte k ∙ z)) ∙ loop.invariant.2,
      )
    ]

pub returns-then-left-eq0-2 : goal.returns-then-left-eq0-2
returns-then-left-eq0-2 c =
    let loop = c.loop-i in
    let e : c.args.n ≡ loop.i = omega (arith, c.loop-i-test.false, loop.invariant.0) in (
      ap (λ k. given (record { start = loop.start; end = k })) e ∙ span-end _ _ _ _ (size (goal.at.returns-then-left-eq0-2 c).After-loop-i) c.if-left-eq0-2.true
          ∙ loop.invariant.2,
      (omega (arith, e, loop.invariant.1), omega arith),
    )

pub returns : goal.returns
returns c = (span-past _ _ _ _ (size (goal.at.returns c).After-loop-i) c.if-left-eq0-2.false ∙ c.loop-i.invariant.2, tt)
