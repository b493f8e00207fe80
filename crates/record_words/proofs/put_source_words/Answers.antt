-- A word a turn: the words of the bytes that are left are what is left to emit. Assumes nothing.
use mathlib.Core.Path.{◌≡◌, sym, ap, ◌∙◌}
use mathlib.Core.List.{◌∷◌}
use Prim.Native.Nat.{ℕ, ◌+◌, ◌*◌}
use native.Mathlib.Omega.{arith}
use lib.ListN.{drop, drop_of_length-le}
use Rattle.writing.proofs.WriteLaws.{too_short}
use Rattle.writing.proofs.Parts.{begin, emit_one, emitted, room-one}
use Rattle.format.specs.Words.{text_words}
use Rattle.format.proofs.Counts.{text-length}
use Rattle.record_words.proofs.RecordLaws.{text_at_lem}
use Rattle.record_words.proofs.put_source_words.Goals as goal
use Rattle.record_words.proofs.put_source_words.Goals.{After-text_word}

-- the next word
next_word : (c : After-text_word) →
    let s = c.args.s.now in
    let at = c.loop-at.at in
    text_words (drop (3 * at) s) ≡ c.text_word.result ∷ text_words (drop (3 * (at + 1)) s)
next_word c =
    let s = c.args.s.now in
    let at = c.loop-at.at in
    let e : 3 * at + 3 ≡ 3 * (at + 1) = omega arith in
    text_at_lem s (3 * at) (omega arith)
    ∙ ap (λ (w : ℕ). w ∷ text_words (drop (3 * at + 3) s)) (sym c.text_word.ensures)
    ∙ ap (λ (i : ℕ). c.text_word.result ∷ text_words (drop i s)) e

pub returns-then-s-ne0 : goal.returns-then-s-ne0
returns-then-s-ne0 c = c.put_text_words.ensures

pub returns-then-out-n : goal.returns-then-out-n
returns-then-out-n c = too_short _ _ _ (text-length c.args.s.now) (omega (arith, c.if-out-n.true, c.if-s-ne0.false))

pub loop-at-init : goal.loop-at-init
loop-at-init c = begin _ _ (omega (arith, text-length c.args.s.now, c.if-out-n.false, c.if-s-ne0.false))

pub bounds-out-at : goal.bounds-out-at
bounds-out-at c = room-one c.loop-at.invariant _ _ (next_word (goal.at.bounds-out-at c).After-text_word)

pub loop-at-preserved : goal.loop-at-preserved
loop-at-preserved c = emit_one c.loop-at.invariant _ _ (next_word (goal.at.loop-at-preserved c).After-text_word)

pub returns : goal.returns
unfolding text_words
returns c =
    let at = c.loop-at.at in
    let s = c.args.s.now in
    let p = emitted c.loop-at.invariant (ap text_words (drop_of_length-le s {i = 3 * at} (omega (arith, c.if-s-ne0.false)))) in
    (omega (arith, p.0), p.1)
