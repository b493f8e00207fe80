-- A walk from head to head. Assumes nothing.
use mathlib.Core.Path.{◌≡◌, refl, sym, ap, ◌∙◌}
use mathlib.Core.List.{List, [], ◌∷◌}
use Prim.Native.Nat.{ℕ, zero, suc, ◌+◌, ◌-◌, ◌≤◌, ◌<◌}
use native.Mathlib.Omega.{arith}
use lib.ListN.{length}
use lib.Dec.{ltb}
use borrow.Author.Tests.{lt-ltb, le-ltb, eq-eqb, ne_eqb}
use Rattle.std.specs.Prelude.{if◌then◌else◌}
use Rattle.object.specs.Bodies.{body_at}
use Rattle.object.specs.Access.{kind_at}
use Rattle.object.proofs.BodyLaws.{body_fits}
use Rattle.text_parts_out.specs.Parts.{heads_from, heads, leading}

module _ (ws : List ℕ) where
  abbrev next : ℕ → ℕ
  next at = at + 1 + length (body_at ws (at + 1))

  -- one bound that suffices is as good as another
  enough : (n m at : ℕ) → length ws - at ≤ n → length ws - at ≤ m → heads_from ws n at ≡ heads_from ws m at
  unfolding heads_from
  enough zero zero at h k = refl
  enough zero (suc m) at h k = rw (le-ltb at (length ws) (omega (arith, h))) refl
  enough (suc n) zero at h k = rw (le-ltb at (length ws) (omega (arith, k))) refl
  enough (suc n) (suc m) at h k =
      ap (λ (r : List ℕ). if ltb at (length ws) then at ∷ r else []) (enough n m (next at) (omega (arith, h)) (omega (arith, k)))

  pub heads-end : (at : ℕ) → length ws ≤ at → heads ws at ≡ []
  unfolding heads_from
  heads-end at h = let e : length ws - at ≡ 0 = omega (arith, h) in ap (λ (n : ℕ). heads_from ws n at) e

  pub heads-next : (at n : ℕ) → at < length ws → n ≡ at + 1 + length (body_at ws (at + 1)) → heads ws at ≡ at ∷ heads ws n
  unfolding heads_from
  heads-next at n h e =
      let k : ℕ = length ws - at - 1 in
      let q : length ws - at ≡ suc k = omega (arith, h) in
      ap (λ (m : ℕ). heads_from ws m at) q ∙ rw (lt-ltb at (length ws) h)
      (ap (λ (r : List ℕ). at ∷ r)
      (ap (λ (m : ℕ). heads_from ws k m) (sym e) ∙ enough k (length ws - n) n (omega (arith, e)) (omega arith)))

  pub next-less : (at n : ℕ) → at < length ws → n ≡ at + 1 + length (body_at ws (at + 1)) → (at < n) × (n ≤ length ws)
  next-less at n h e = (omega (arith, e), omega (arith, e, body_fits ws (at + 1) (omega (arith, h))))

  -- blocks from the front
  pub leading_end : (at : ℕ) → length ws ≤ at → leading ws (heads ws at) ≡ []
  unfolding leading
  leading_end at h = ap (leading ws) (heads-end at h)

  pub leading-other : (at : ℕ) → at < length ws → (kind_at ws at ≡ 0 → ⊥) → leading ws (heads ws at) ≡ []
  unfolding leading
  leading-other at h k = ap (leading ws) (heads-next at (next at) h refl) ∙ rw (ne_eqb (kind_at ws at) 0 k)

  pub leading-next : (at n : ℕ) → at < length ws → n ≡ at + 1 + length (body_at ws (at + 1)) → kind_at ws at ≡ 0
      → leading ws (heads ws at) ≡ at ∷ leading ws (heads ws n)
  unfolding leading
  leading-next at n h e k = ap (leading ws) (heads-next at n h e) ∙ rw (eq-eqb (kind_at ws at) 0 k)
