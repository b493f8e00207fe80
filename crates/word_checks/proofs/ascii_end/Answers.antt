-- Each word passed leaves the rest of the text as good. Assumes nothing.
use Rattle.std.proofs.Common.{◌≡◌, ◌+◌, ◌<◌, ◌∷◌, length, get_or, sym, ap, ◌∙◌, arith}
use Rattle.object.specs.Bodies.{body_at, good_text}
use Rattle.object.proofs.BodyLaws.{body_goes, body_out, ends_within}
use Rattle.word_checks.specs.Walks.{AsciiWord}
use Rattle.word_checks.proofs.AsciiLaws.{ascii-text, ascii_goes}
use Rattle.word_checks.proofs.ascii_end.Goals as goal

pub loop-i-preserved : goal.loop-i-preserved
loop-i-preserved c =
    let ws = c.args.ws.now in
    let i = c.loop-i.i in
    let a : AsciiWord (get_or ws i 0) = c.is_ascii_word.ensures c.if-not-is_ascii_word.false in
    let h : i < length ws = omega arith in
    let e : body_at ws i ≡ get_or ws i 0 ∷ body_at ws (i + 1) = body_goes ws i h (ascii_goes (get_or ws i 0) a) in (
      omega (arith, ap length e, c.loop-i.invariant.0),
      sym (ascii-text (get_or ws i 0) a (body_at ws (i + 1))) ∙ ap good_text (sym e) ∙ c.loop-i.invariant.1,
    )

pub returns : goal.returns
returns c =
    let ws = c.args.ws.now in
    let m = c.max.result in
    let i = c.loop-i.i in
    let inv = c.loop-i.invariant in
    let e = ends_within ws c.args.at i c.loop-i-test.false c.loop-i.auto.i-end inv.0 in
    let o = body_out ws m (omega arith) in
    (omega (arith, e, ap length o, c.max.ensures), ap good_text (o ∙ sym (body_out ws i c.loop-i-test.false)) ∙ inv.1)
