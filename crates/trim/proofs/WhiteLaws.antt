-- White_Space by comparisons. Assumes nothing.
use mathlib.Core.Path.{◌≡◌, sym, ap, ◌∙◌}
use mathlib.Core.Bool.{true, false}
use mathlib.Core.Logic.{◌⊎◌, inl, inr}
use Prim.Native.Nat.{ℕ, ◌<◌}
use native.Mathlib.Omega.{arith}
use lib.Dec.{leb, eqb}
use borrow.Author.Tests.{ne_eqb, leb-true, eqb-true, eqb-false}
use Rattle.format.specs.Utf8.{is_between, is_white_space}
use Rattle.format.proofs.ListLaws.{by_test, both}
use Rattle.format.proofs.WhiteSpaceLaws.{white_last}
pub use Rattle.format.proofs.WhiteSpaceLaws.{below, above}

-- the characters that stand alone
abbrev pub Alone : ℕ → Type 0
Alone x = (x ≡ 0x20) ⊎ ((x ≡ 0x85) ⊎ ((x ≡ 0xA0) ⊎ ((x ≡ 0x1680) ⊎ ((x ≡ 0x202F) ⊎ ((x ≡ 0x205F) ⊎ (x ≡ 0x3000))))))

module _ (x : ℕ) where
  pub white_control : is_between 0x9 0xD x ≡ true → true ≡ is_white_space x
  unfolding is_white_space
  white_control e = simp e

  -- below x85 there are no others
  pub white_low : is_between 0x9 0xD x ≡ false → (x ≡ 0x20 → ⊥) → x < 0x85 → false ≡ is_white_space x
  white_low a b h =
      sym (ne_eqb x 0x3000 (λ e. omega arith))
      ∙ white_last x a b (λ e. omega arith) (λ e. omega arith) (λ e. omega arith) (below 0x2000 0x200A x (omega arith)) (λ e. omega arith)
      (λ e. omega arith) (λ e. omega arith) (λ e. omega arith)

  pub white_wide : is_between 0x2000 0x200A x ≡ true → true ≡ is_white_space x
  unfolding is_white_space
  white_wide e =
      let h = leb-true 0x2000 x (both (leb 0x2000 x) (leb x 0x200A) e).0 in
      simp (
        above 0x9 0xD x (omega arith),
        ne_eqb x 0x20 (λ e. omega arith),
        ne_eqb x 0x85 (λ e. omega arith),
        ne_eqb x 0xA0 (λ e. omega arith),
        ne_eqb x 0x1680 (λ e. omega arith),
        e,
      )

  -- the line and paragraph separators, tested as a range
  pub white_lines : is_between 0x2028 0x2029 x ≡ true → true ≡ is_white_space x
  unfolding is_white_space
  white_lines e =
      let h = both (leb 0x2028 x) (leb x 0x2029) e in
      by_test (eqb x 0x2028) (λ t. sym (ap is_white_space (eqb-true x 0x2028 t)))
      (λ t. let l : x ≡ 0x2029 = omega (arith, leb-true 0x2028 x h.0, leb-true x 0x2029 h.1, eqb-false x 0x2028 t) in
      sym (ap is_white_space l))

  pub white_not :
      (Alone x → ⊥) → is_between 0x9 0xD x ≡ false → is_between 0x2000 0x200A x ≡ false → (x ≡ 0x2028 → ⊥) → (x ≡ 0x2029 → ⊥)
      → false ≡ is_white_space x
  white_not other a b c d =
      sym (ne_eqb x 0x3000 (λ e. other (inr (inr (inr (inr (inr (inr e))))))))
      ∙ white_last x a (λ e. other (inl e)) (λ e. other (inr (inl e))) (λ e. other (inr (inr (inl e))))
      (λ e. other (inr (inr (inr (inl e))))) b c d (λ e. other (inr (inr (inr (inr (inl e))))))
      (λ e. other (inr (inr (inr (inr (inr (inl e)))))))
