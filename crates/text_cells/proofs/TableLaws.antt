-- A digit's value by its byte. Assumes nothing.
use mathlib.Core.Path.{◌≡◌, sym, ap, ◌∙◌}
use mathlib.Core.Bool.{true}
use mathlib.Core.Logic.{◌⊎◌, inl, inr}
use Prim.Native.Nat.{ℕ, zero, suc, ◌+◌, ◌-◌, ◌≤◌}
use native.Mathlib.Omega.{arith}
use lib.Dec.{leb}
use borrow.Author.Tests.{leb-true}
use Rattle.format.specs.Utf8.{is_between}
use Rattle.format.proofs.ListLaws.{by_test, both}
use Rattle.text_cells.specs.Cells.{digit_or16}

pub one : (k b : ℕ) → b ≡ k → digit_or16 k ≤ 16 → (digit_or16 k ≡ digit_or16 b) × (digit_or16 k ≤ 16)
one k b e h = (sym (ap digit_or16 e), h)

pub two : (k j b : ℕ) → (b ≡ k) ⊎ (b ≡ j) → digit_or16 j ≡ digit_or16 k → digit_or16 k ≤ 16 → (digit_or16 k ≡ digit_or16 b) × (digit_or16 k ≤ 16)
two k j b (inl e) q h = (sym (ap digit_or16 e), h)
two k j b (inr e) q h = (sym q ∙ sym (ap digit_or16 e), h)

-- a byte in a range, by its place there
in_range : (low n b : ℕ) → is_between low (low + n) b ≡ true → ((i : ℕ) → i ≤ n → b ≡ low + i → ⊥) → ⊥
in_range low n b t f =
    let p = both (leb low b) (leb b (low + n)) t in
    let l = leb-true low b p.0 in
    let u = leb-true b (low + n) p.1 in
    f (b - low) (omega arith) (omega arith)

-- none of the digits
module _
    (b : ℕ) (d0 : b ≡ 48 → ⊥) (d1 : b ≡ 49 → ⊥) (d2 : b ≡ 50 → ⊥) (d3 : b ≡ 51 → ⊥) (d4 : b ≡ 52 → ⊥)
    (d5 : b ≡ 53 → ⊥) (d6 : b ≡ 54 → ⊥) (d7 : b ≡ 55 → ⊥) (d8 : b ≡ 56 → ⊥) (d9 : b ≡ 57 → ⊥)
    (d10 : (b ≡ 65) ⊎ (b ≡ 97) → ⊥) (d11 : (b ≡ 66) ⊎ (b ≡ 98) → ⊥) (d12 : (b ≡ 67) ⊎ (b ≡ 99) → ⊥)
    (d13 : (b ≡ 68) ⊎ (b ≡ 100) → ⊥) (d14 : (b ≡ 69) ⊎ (b ≡ 101) → ⊥) (d15 : (b ≡ 70) ⊎ (b ≡ 102) → ⊥) where
  low : (i : ℕ) → i ≤ 9 → b ≡ 48 + i → ⊥
  low zero l e = d0 e
  low (suc zero) l e = d1 e
  low (suc (suc zero)) l e = d2 e
  low (suc (suc (suc zero))) l e = d3 e
  low (suc (suc (suc (suc zero)))) l e = d4 e
  low (suc (suc (suc (suc (suc zero))))) l e = d5 e
  low (suc (suc (suc (suc (suc (suc zero)))))) l e = d6 e
  low (suc (suc (suc (suc (suc (suc (suc zero))))))) l e = d7 e
  low (suc (suc (suc (suc (suc (suc (suc (suc zero)))))))) l e = d8 e
  low (suc (suc (suc (suc (suc (suc (suc (suc (suc zero))))))))) l e = d9 e
  low (suc (suc (suc (suc (suc (suc (suc (suc (suc (suc i)))))))))) l e = omega arith

  upper : (i : ℕ) → i ≤ 5 → b ≡ 65 + i → ⊥
  upper zero l e = d10 (inl e)
  upper (suc zero) l e = d11 (inl e)
  upper (suc (suc zero)) l e = d12 (inl e)
  upper (suc (suc (suc zero))) l e = d13 (inl e)
  upper (suc (suc (suc (suc zero)))) l e = d14 (inl e)
  upper (suc (suc (suc (suc (suc zero))))) l e = d15 (inl e)
  upper (suc (suc (suc (suc (suc (suc i)))))) l e = omega arith

  lower : (i : ℕ) → i ≤ 5 → b ≡ 97 + i → ⊥
  lower zero l e = d10 (inr e)
  lower (suc zero) l e = d11 (inr e)
  lower (suc (suc zero)) l e = d12 (inr e)
  lower (suc (suc (suc zero))) l e = d13 (inr e)
  lower (suc (suc (suc (suc zero)))) l e = d14 (inr e)
  lower (suc (suc (suc (suc (suc zero))))) l e = d15 (inr e)
  lower (suc (suc (suc (suc (suc (suc i)))))) l e = omega arith

  pub no_digit : 16 ≡ digit_or16 b
  unfolding digit_or16
  no_digit =
      by_test (is_between 48 57 b) (λ t. absurd (in_range 48 9 b t low))
      (λ t. by_test (is_between 65 70 b) (λ u. absurd (in_range 65 5 b u upper))
      (λ u. by_test (is_between 97 102 b) (λ v. absurd (in_range 97 5 b v lower)) (λ v. simp (t, u, v))))
