-- Letter by letter. Assumes nothing.
use native.Mathlib.Omega.{arith}
use mathlib.Core.Path.{◌≡◌, refl, sym, ◌∙◌}
use Prim.Native.Nat.{ℕ}
use Rattle.std.specs.Prelude.{◌≢◌}
use Rattle.text_escape.specs.Escaped.{letter_of}
use Rattle.text_escape.proofs.EscapeLaws.{letter_none}
use Rattle.text_escape.proofs.letter.Goals as goal
use Rattle.text_escape.proofs.letter.Goals.{then-c-eq34-via-then-c-eq34, then-c-eq34-via-else-c-eq34+then-c-eq39, then-c-eq34-via-else-c-eq34+else-c-eq39+then-c-eq92}

pub returns-then-c-gt92 : goal.returns-then-c-gt92
returns-then-c-gt92 c =
    letter_none _ (λ z. omega (arith, c.if-c-gt92.true)) (λ z. omega (arith, c.if-c-gt92.true)) (λ z. omega (arith, c.if-c-gt92.true))
    (λ z. omega (arith, c.if-c-gt92.true)) (λ z. omega (arith, c.if-c-gt92.true)) (λ z. omega (arith, c.if-c-gt92.true))

pub returns-then-c-eq9 : goal.returns-then-c-eq9
unfolding letter_of
returns-then-c-eq9 c = rw c.if-c-eq9.true (refl, λ z. omega arith)

pub returns-then-c-eq10 : goal.returns-then-c-eq10
unfolding letter_of
returns-then-c-eq10 c = rw c.if-c-eq10.true (refl, λ z. omega arith)

pub returns-then-c-eq13 : goal.returns-then-c-eq13
unfolding letter_of
returns-then-c-eq13 c = rw c.if-c-eq13.true (refl, λ z. omega arith)

-- a letter that stands for itself
itself : (c : ℕ) (l : ℕ) → c ≡ l → (letter_of l ≡ l) × (l ≢ 0) → (c ≡ letter_of c) × (letter_of c ≢ 0)
itself c l e h = rw e (sym h.0, λ z. h.1 (sym h.0 ∙ z))

pub returns-then-c-eq34 : goal.returns-then-c-eq34
unfolding letter_of
returns-then-c-eq34 c =
    elim c.then-c-eq34.branch [
      | then-c-eq34-via-then-c-eq34 w ↦ itself c.args.c 34 w.if-c-eq34.true (refl, λ z. omega arith)
      | then-c-eq34-via-else-c-eq34+then-c-eq39 w ↦ itself c.args.c 39 w.if-c-eq39.true (refl, λ z. omega arith)
      | then-c-eq34-via-else-c-eq34+else-c-eq39+then-c-eq92 w ↦ itself c.args.c 92 w.if-c-eq92.true (refl, λ z. omega arith)
    ]

pub returns : goal.returns
returns c =
    letter_none _ c.if-c-eq9.false c.if-c-eq13.false c.if-c-eq10.false c.if-c-eq39.false c.if-c-eq34.false c.if-c-eq92.false
