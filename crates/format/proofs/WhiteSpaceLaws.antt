-- "Exactly 25 characters get its yes" (document 02, P6): of all numbers, and of all scalar values. Assumes nothing.
use mathlib.Core.Path.{◌≡◌, refl, sym, ap, ◌∙◌}
use mathlib.Core.Bool.{Bool, true, false, ◌&&◌}
use Prim.Native.Nat.{ℕ, zero, suc, ◌+◌, ◌-◌, ◌≤◌, ◌<◌}
use native.Mathlib.Nat.{suc-add, zero-add}
use native.Mathlib.Numerals.{add-one}
use native.Mathlib.Omega.{arith}
use lib.Dec.{leb, eqb}
use borrow.Author.Tests.{lt-ltb, lt-leb, leb-true, leb-false, ne_eqb}
use Rattle.format.specs.Basics.{how_many}
use Rattle.format.specs.Utf8.{is_between, is_scalar, is_white_space}
use Rattle.format.proofs.ListLaws.{by_test}

-- counting by any test
module _ (p : ℕ → Bool) where
  pub how_many-yes : (n : ℕ) → p n ≡ true → how_many p (n + 1) ≡ how_many p n + 1
  unfolding how_many
  how_many-yes n e = rw (add-one n, e) (sym (add-one (how_many p n)))

  pub how_many_no : (n : ℕ) → p n ≡ false → how_many p (n + 1) ≡ how_many p n
  unfolding how_many
  how_many_no n e = rw (add-one n, e) refl

  pub how_many_most : (n : ℕ) → how_many p n ≤ n
  unfolding how_many
  how_many_most zero = omega arith
  how_many_most (suc n) =
      let h = how_many_most n in by_test (p n) (λ e. simp e (omega arith)) (λ e. simp e (omega arith))

  -- what passes nowhere from m on is counted below m
  pub how_many_below : (m : ℕ) → ((c : ℕ) → m ≤ c → p c ≡ false) → (k : ℕ) → how_many p (k + m) ≡ how_many p m
  unfolding how_many
  how_many_below m none zero = ap (how_many p) (zero-add m)
  how_many_below m none (suc k) = ap (how_many p) (suc-add k m) ∙ rw (none (k + m) (omega arith)) (how_many_below m none k)

pub how_many-same : (p q : ℕ → Bool) → ((c : ℕ) → p c ≡ q c) → (n : ℕ) → how_many p n ≡ how_many q n
unfolding how_many
how_many-same p q e zero = refl
how_many-same p q e (suc n) = rw (e n, how_many-same p q e n)

-- up to x3000 they are counted
counted : how_many is_white_space 0x3001 ≡ 25
unfolding how_many is_white_space
counted = refl

-- outside the two ends of a range
pub below : (low high x : ℕ) → x < low → is_between low high x ≡ false
below low high x h = simp (lt-leb low x h)

pub above : (low high x : ℕ) → high < x → is_between low high x ≡ false
above low high x h = by_test (leb low x) (λ t. simp (t, lt-leb x high h)) (λ t. simp t)

-- what the tests leave to the last, if all before it say no
pub white_last :
    (x : ℕ) → is_between 0x9 0xD x ≡ false → (x ≡ 0x20 → ⊥) → (x ≡ 0x85 → ⊥) → (x ≡ 0xA0 → ⊥) → (x ≡ 0x1680 → ⊥)
    → is_between 0x2000 0x200A x ≡ false → (x ≡ 0x2028 → ⊥) → (x ≡ 0x2029 → ⊥) → (x ≡ 0x202F → ⊥) → (x ≡ 0x205F → ⊥)
    → eqb x 0x3000 ≡ is_white_space x
unfolding is_white_space
white_last x a b c d e f g h i j =
    simp (
      a,
      ne_eqb x 0x20 b,
      ne_eqb x 0x85 c,
      ne_eqb x 0xA0 d,
      ne_eqb x 0x1680 e,
      f,
      ne_eqb x 0x2028 g,
      ne_eqb x 0x2029 h,
      ne_eqb x 0x202F i,
      ne_eqb x 0x205F j,
    )

-- there are none from x3001 on
pub white_beyond : (c : ℕ) → 0x3001 ≤ c → is_white_space c ≡ false
white_beyond c h =
    sym
    (white_last c (above 0x9 0xD c (omega arith)) (λ e. omega arith) (λ e. omega arith) (λ e. omega arith) (λ e. omega arith)
    (above 0x2000 0x200A c (omega arith)) (λ e. omega arith) (λ e. omega arith) (λ e. omega arith) (λ e. omega arith))
    ∙ ne_eqb c 0x3000 (λ e. omega arith)

-- of all numbers, however far one counts
pub white_25 : (n : ℕ) → 0x3001 ≤ n → how_many is_white_space n ≡ 25
white_25 n h =
    let e : n ≡ (n - 0x3001) + 0x3001 = omega arith in
    ap (how_many is_white_space) e ∙ how_many_below is_white_space 0x3001 white_beyond (n - 0x3001) ∙ counted

-- each of them is a character
pub white_scalar : (c : ℕ) → (is_scalar c && is_white_space c) ≡ is_white_space c
unfolding is_scalar
white_scalar c =
    by_test (leb 0x3001 c) (λ t. neither (is_scalar c) (is_white_space c) (white_beyond c (leb-true 0x3001 c t)))
    (λ t. simp (lt-ltb c 0xD800 (omega (arith, leb-false 0x3001 c t))))
  where
    neither : (a b : Bool) → b ≡ false → (a && b) ≡ b
    neither true b e = refl
    neither false b e = sym e

-- of all scalar values: they are below x110000
pub white_25_scalars : (n : ℕ) → 0x3001 ≤ n → how_many (λ c. is_scalar c && is_white_space c) n ≡ 25
white_25_scalars n h = how_many-same (λ c. is_scalar c && is_white_space c) is_white_space white_scalar n ∙ white_25 n h
