-- A digit's value by sums: a test that is computed at each byte from `0` up to `f`. Assumes nothing.
use mathlib.Core.Path.{◌≡◌, refl, sym, ap, ◌∙◌}
use mathlib.Core.Bool.{Bool, true, ◌&&◌}
use Prim.Native.Nat.{ℕ, zero, suc, ◌+◌, ◌-◌, ◌*◌, ◌/◌, ◌%◌, ◌≤◌, ◌<◌}
use native.Mathlib.Omega.{arith}
use lib.Dec.{eqb, leb, ltb}
use borrow.Author.Tests.{eqb-true, leb-true, lt-ltb, le-ltb}
use Rattle.std.specs.Prelude.{if◌then◌else◌}
use Rattle.format.proofs.ListLaws.{both}
use Rattle.text_cells.specs.Cells.{digit_or16}

unfoldable summed : ℕ → ℕ
summed b =
    if ltb (b % 32) (16 - 15 * (b / 64)) then 16 else if ltb (25 - 19 * (b / 64)) (b % 32) then 16 else b % 16 + 9 * (b / 64)

-- the value of each of k bytes from b on is right, and at most 16
unfoldable right : ℕ → ℕ → Bool
right b zero = true
right b (suc k) = eqb (summed b) (digit_or16 b) && (leb (summed b) 16 && right (suc b) k)

at : (k b : ℕ) → right b k ≡ true → (i : ℕ) → i < k → (summed (b + i) ≡ digit_or16 (b + i)) × (summed (b + i) ≤ 16)
unfolding right
at zero b e i h = absurd (omega arith)
at (suc k) b e zero h =
    let p = both (eqb (summed b) (digit_or16 b)) (leb (summed b) 16 && right (suc b) k) e in
    let z : b ≡ b + 0 = omega arith in
    let l = leb-true (summed b) 16 (both (leb (summed b) 16) (right (suc b) k) p.1).0 in
    (sym (ap summed z) ∙ eqb-true (summed b) (digit_or16 b) p.0 ∙ ap digit_or16 z, rw z at l)
at (suc k) b e (suc i) h =
    let p = both (eqb (summed b) (digit_or16 b)) (leb (summed b) 16 && right (suc b) k) e in
    let q = at k (suc b) (both (leb (summed b) 16) (right (suc b) k) p.1).1 i (omega arith) in
    let z : suc b + i ≡ b + suc i = omega arith in
    rw z at q

summed_digit : (b : ℕ) → 48 ≤ b → b ≤ 102 → (summed b ≡ digit_or16 b) × (summed b ≤ 16)
unfolding right summed digit_or16
summed_digit b l h =
    let z : 48 + (b - 48) ≡ b = omega arith in
    let r = at 55 48 refl (b - 48) (omega arith) in
    rw z at r

module _ (b : ℕ) (l : 48 ≤ b) (h : b ≤ 102) where
  pub digit_low : b % 32 < 16 - 15 * (b / 64) → (16 ≡ digit_or16 b) × (16 ≤ 16)
  unfolding summed
  digit_low p =
      let e : summed b ≡ 16 = simp (lt-ltb (b % 32) (16 - 15 * (b / 64)) p) in (sym e ∙ (summed_digit b l h).0, omega arith)

  module _ (p : 16 - 15 * (b / 64) ≤ b % 32) where
    pub digit_high : 25 - 19 * (b / 64) < b % 32 → (16 ≡ digit_or16 b) × (16 ≤ 16)
    unfolding summed
    digit_high q =
        let e : summed b ≡ 16 = simp (le-ltb (b % 32) (16 - 15 * (b / 64)) p, lt-ltb (25 - 19 * (b / 64)) (b % 32) q) in
        (sym e ∙ (summed_digit b l h).0, omega arith)

    pub digit_value_lem : b % 32 ≤ 25 - 19 * (b / 64) → (b % 16 + 9 * (b / 64) ≡ digit_or16 b) × (b % 16 + 9 * (b / 64) ≤ 16)
    unfolding summed
    digit_value_lem q =
        let e : summed b ≡ b % 16 + 9 * (b / 64) =
        simp (le-ltb (b % 32) (16 - 15 * (b / 64)) p, le-ltb (25 - 19 * (b / 64)) (b % 32) q) in
        let r = summed_digit b l h in
        (sym e ∙ r.0, rw e at r.1)
