-- A word a turn: the words of what is left of the text are what is left to emit. Assumes nothing.
use borrow.Author.Rules.{rules}
use mathlib.Core.Path.{◌≡◌, sym, ap, ◌∙◌}
use mathlib.Core.List.{◌∷◌}
use Prim.Native.Nat.{ℕ, ◌+◌, ◌<◌}
use native.Mathlib.Omega.{arith}
use lib.ListN.{length, drop, drop_of_length-le}
use borrow.Author.Rules.{part_to_end}
use Rattle.format.specs.Words.{text_words}
use Rattle.writing.proofs.WriteLaws.{too_short}
use Rattle.writing.proofs.Parts.{begin, emit_one, emitted, room-one}
use Rattle.writing.proofs.TextLaws.{first_word, words_at_lem}
use Rattle.format.proofs.Counts.{text-length}
use Rattle.writing.proofs.put_text_words.Goals as goal
use Rattle.writing.proofs.put_text_words.Goals.{After-text_word}

-- the next word
next_word : (c : After-text_word) →
    let s = c.args.s.now in
    let i = c.loop-i.i in
    text_words (drop i s) ≡ c.text_word.result ∷ text_words (drop (i + 3) s)
next_word c =
    let s = c.args.s.now in
    let i = c.loop-i.i in
    words_at_lem s i c.loop-i-test.true
    ∙ ap (λ (w : ℕ). w ∷ text_words (drop (i + 3) s)) (ap first_word (sym (part_to_end s i)) ∙ sym c.text_word.ensures)

fits : (c : After-text_word) → c.loop-i.at < length c.loop-i.out
fits c = room-one c.loop-i.invariant.1 _ _ (next_word c)

pub returns-then-out-s : goal.returns-then-out-s
returns-then-out-s c = too_short _ _ _ (text-length _) c.if-out-s.true

pub loop-i-init : goal.loop-i-init
loop-i-init c = (search rules, begin _ _ (omega (arith, text-length c.args.s.now)))

pub loop-i-preserved : goal.loop-i-preserved
loop-i-preserved c = (omega arith, emit_one c.loop-i.invariant.1 _ _ (next_word c))

pub returns : goal.returns
unfolding text_words
returns c = emitted c.loop-i.invariant.1 (ap text_words (drop_of_length-le _ c.loop-i-test.false))

pub bounds-out-at : goal.bounds-out-at
bounds-out-at c = fits c
