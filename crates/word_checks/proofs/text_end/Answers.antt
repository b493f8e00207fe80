use Rattle.std.proofs.Common.{◌≡◌, ℕ, ◌+◌, Bool, true, false, cond, Option, eqb, List, [], ◌∷◌, length, get_or, sym, ap, ◌∙◌, arith, ne_eqb}
use Rattle.format.specs.Basics.{refused, given}
use Rattle.format.specs.Digits.{digits_of}
use Rattle.format.specs.Words.{text_part}
use Rattle.utf8.specs.declared.Utf8.{Utf8}
use Rattle.object.specs.Bodies.{body_at, good_text, counted}
use Rattle.object.proofs.BodyLaws.{goes, stops, body_out, ends_within}
use Rattle.object.proofs.TextLaws.{text_on, text-start, text-end, text-short, text-bad, text-next}
use Rattle.std.specs.Bool.{then_some}
use Rattle.word_checks.specs.Walks.{Walked}
use Rattle.word_checks.proofs.text_end.Goals as goal

module _ (ws : List ℕ) (at i : ℕ) (u : Utf8) (full : Bool) (inv : text_on u full (body_at ws i) ≡ good_text (body_at ws at)) where
  -- what the words from here on come to
  from-here : body_at ws i ≡ get_or ws i 0 ∷ body_at ws (i + 1) → text_on u full (get_or ws i 0 ∷ body_at ws (i + 1)) ≡ good_text (body_at ws at)
  from-here e = ap (text_on u full) (sym e) ∙ inv

  -- what they come to where none is left
  measured : body_at ws i ≡ [] → good_text (body_at ws at) ≡ eqb u.need 0
  measured e = sym inv ∙ ap (text_on u full) e ∙ text-end u full

walked : (ws : List ℕ) (at end : ℕ) (t : Bool) (r : Option ℕ) → r ≡ then_some t end → good_text (body_at ws at) ≡ t
    → end ≡ at + length (body_at ws at) → Walked good_text ws at r
walked ws at end true r e g p = rw e (g, p)
walked ws at end false r e g p = rw e g

pub loop-i-init : goal.loop-i-init
loop-i-init c =
    let xs = body_at c.args.ws.now c.ascii_end-start.result in
    (c.ascii_end-start.ensures.0, ap (λ (u : Utf8). text_on u true xs) c.new-u.ensures ∙ text-start xs ∙ c.ascii_end-start.ensures.1)

pub returns-then-not-goes_on : goal.returns-then-not-goes_on
returns-then-not-goes_on c =
    let l = c.loop-i in
    let e = stops _ _ (sym c.goes_on.ensures ∙ c.if-not-goes_on.true) in
    walked _ _ l.i c.is_whole.result c.then_some.result c.then_some.ensures
    (measured _ c.args.at l.i l.u l.full l.invariant.1 e ∙ sym c.is_whole.ensures)
    (omega (arith, ap length e, l.invariant.0))

pub returns-then-not-full : goal.returns-then-not-full
returns-then-not-full c =
    let l = c.loop-i in
    let g = goes _ _ (sym c.goes_on.ensures ∙ c.if-not-goes_on.false) in
    sym (from-here _ c.args.at l.i l.u l.full l.invariant.1 g.1) ∙ text-short _ _ _ _ c.if-not-full.true

pub returns-then-n-eq0 : goal.returns-then-n-eq0
returns-then-n-eq0 c =
    let ws = c.args.ws.now in
    let l = c.loop-i in
    let g = goes ws l.i (sym c.goes_on.ensures ∙ c.if-not-goes_on.false) in
    sym (from-here ws c.args.at l.i l.u l.full l.invariant.1 g.1)
    ∙ text-bad _ _ _ _ c.if-not-full.false (c.text_count-n.ensures.1 ∙ ap (λ n. counted n (get_or ws l.i 0)) c.if-n-eq0.true)

pub loop-i-preserved : goal.loop-i-preserved
loop-i-preserved c =
    let ws = c.args.ws.now in
    let l = c.loop-i in
    let n = c.text_count-n.result in
    let w = get_or ws l.i 0 in
    let rest = body_at ws (l.i + 1) in
    let g = goes ws l.i (sym c.goes_on.ensures ∙ c.if-not-goes_on.false) in
    let p : text_part w ≡ given (digits_of 8 n w) =
    c.text_count-n.ensures.1 ∙ ap (λ (b : Bool). cond b (refused 1) (given (digits_of 8 n w)))
    (ne_eqb n 0 c.if-n-eq0.false) in (
      omega (arith, ap length g.1, l.invariant.0),
      ap (λ (v : Utf8). text_on v (eqb n 3) rest) c.text_step-u.ensures ∙ sym (text-next l.u w rest l.full n c.if-not-full.false p)
          ∙ from-here ws c.args.at l.i l.u l.full l.invariant.1 g.1,
    )

pub returns : goal.returns
returns c =
    let ws = c.args.ws.now in
    let l = c.loop-i in
    let start = c.ascii_end-start in
    let past = ends_within ws start.result l.i c.loop-i-test.false l.auto.i-end (l.invariant.0 ∙ sym start.ensures.0) in
    walked _ _ c.max.result c.is_whole-2.result c.then_some-2.result c.then_some-2.ensures
    (measured ws c.args.at l.i l.u l.full l.invariant.1 (body_out ws l.i c.loop-i-test.false) ∙ sym c.is_whole-2.ensures)
    (c.max.ensures ∙ past ∙ start.ensures.0)
