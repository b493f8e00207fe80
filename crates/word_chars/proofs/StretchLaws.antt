-- Stretches, one after the other. Assumes nothing.
use mathlib.Core.Logic.{inl, inr, ⊎_elim}
use mathlib.Core.List.{List}
use Prim.Native.Nat.{ℕ, ◌+◌, ◌≤◌, ◌<◌}
use native.Mathlib.Omega.{arith}
use Rattle.object.specs.Texts.{text_byte}
use Rattle.object.proofs.SpanLaws.{each_none, each_join, each_more}
use Rattle.word_chars.specs.Stretches.{Stretch}

module _ (P : ℕ → Type 0) (ws : List ℕ) (at n i : ℕ) where
  pub stretch_none : Stretch P ws at n i i
  stretch_none = (omega arith, inl (omega arith), each_none P ws at i)

  pub stretch_more : (j : ℕ) → Stretch P ws at n i j → j < n → P (text_byte ws at j) → Stretch P ws at n i (j + 1)
  stretch_more j f h p = (omega (arith, f.0), inr (omega arith), each_more P ws at i j f.2 p)

  pub stretch_join : (m j : ℕ) → Stretch P ws at n i m → Stretch P ws at n m j → Stretch P ws at n i j
  stretch_join m j f g = (
    omega (arith, f.0, g.0),
    ⊎_elim (λ h. ⊎_elim (λ k. inl (omega (arith, h, k))) inr g.1) (λ h. ⊎_elim (λ k. inr (omega (arith, h, k))) inr g.1) f.1,
    each_join P ws at i m j f.2 g.2,
  )

  -- inside the text nothing passes its end
  pub stretch_within : (j : ℕ) → Stretch P ws at n i j → i < n → j ≤ n
  stretch_within j f h = ⊎_elim (λ k. omega (arith, k)) (λ k. k) f.1
