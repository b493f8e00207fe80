-- A word a turn: the words of the bytes that are left are what is left to emit. Assumes nothing.
use mathlib.Core.Path.{◌≡◌, sym, ap, ◌∙◌}
use mathlib.Core.List.{◌∷◌}
use Prim.Native.Nat.{ℕ, ◌+◌, ◌*◌}
use native.Mathlib.Omega.{arith}
use lib.ListN.{drop}
use Rattle.writing.proofs.WriteLaws.{too_short}
use Rattle.writing.proofs.Parts.{begin, emit_one, emitted, room-one}
use Rattle.record_words.proofs.RecordLaws.{address_words, length-address, address_at_lem, address-end}
use Rattle.record_words.proofs.put_address_words.Goals as goal
use Rattle.record_words.proofs.put_address_words.Goals.{After-memory_word}

-- the next word
next_word : (c : After-memory_word) →
    let s = c.args.s.now in
    let at = c.loop-at.at in
    address_words (drop (2 * at) s) ≡ c.memory_word.result ∷ address_words (drop (2 * (at + 1)) s)
next_word c =
    let s = c.args.s.now in
    let at = c.loop-at.at in
    let e : 2 * at + 2 ≡ 2 * (at + 1) = omega arith in
    address_at_lem s (2 * at) (omega arith)
    ∙ ap (λ (w : ℕ). w ∷ address_words (drop (2 * at + 2) s)) (sym c.memory_word.ensures)
    ∙ ap (λ (i : ℕ). c.memory_word.result ∷ address_words (drop i s)) e

pub returns-then-out-n : goal.returns-then-out-n
returns-then-out-n c = too_short _ _ _ (length-address _) c.if-out-n.true

pub loop-at-init : goal.loop-at-init
loop-at-init c = begin _ _ (omega (arith, length-address c.args.s.now))

pub bounds-out-at : goal.bounds-out-at
bounds-out-at c = room-one c.loop-at.invariant _ _ (next_word (goal.at.bounds-out-at c).After-memory_word)

pub loop-at-preserved : goal.loop-at-preserved
loop-at-preserved c = emit_one c.loop-at.invariant _ _ (next_word (goal.at.loop-at-preserved c).After-memory_word)

pub returns : goal.returns
returns c = let p = emitted c.loop-at.invariant (address-end c.args.s.now (2 * c.loop-at.at) (omega arith)) in (omega (arith, p.0), p.1)
