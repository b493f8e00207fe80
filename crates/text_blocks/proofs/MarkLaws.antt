-- Marks of addresses, as bits of bytes. Assumes nothing.
use Rattle.std.proofs.Common.{◌≡◌, ℕ, zero, suc, ◌+◌, ◌*◌, ◌/◌, ◌%◌, ◌^◌, ◌<◌, true, false, eqb, List, length, get_or, set, sym, refl, ap, ◌∙◌, arith, length-set, get_or-set_other, get_or-set_same, pow_pos, shl_exact, eq-eqb, eqb-true}
use native.Mathlib.Nat.{pow-succ', add-div_right, div-div-eq-div-mul}
use borrow.Author.Tests.{eqb-false}
use Rattle.text_lines.proofs.TestLaws.{by_test}
use Rattle.text_blocks.specs.Blocks.{is_marked, marked}

-- BITS
-- the next bit of a number is this one of its half
half_bit : (x i : ℕ) → x / 2 ^ suc i % 2 ≡ x / 2 / 2 ^ i % 2
half_bit x i = ap (λ (p : ℕ). x / p % 2) (pow-succ' 2 i) ∙ ap (λ (q : ℕ). q % 2) (sym (div-div-eq-div-mul x 2 (2 ^ i)))

-- a bit that is added where it is 0: it is 1 then, the others stay, and there is room for it
odd : (q : ℕ) → q % 2 ≡ 0 → (q + 1) % 2 ≡ 1
odd q e = omega arith

bit_same : (j x : ℕ) → x / 2 ^ j % 2 ≡ 0 → (x + 2 ^ j) / 2 ^ j % 2 ≡ 1
bit_same j x e = ap (λ (q : ℕ). q % 2) (add-div_right x (pow_pos j)) ∙ odd (x / 2 ^ j) e

bit_other : (i j x : ℕ) → (i ≡ j → ⊥) → x / 2 ^ j % 2 ≡ 0 → (x + 2 ^ j) / 2 ^ i % 2 ≡ x / 2 ^ i % 2
bit_other zero zero x n e = absurd (n refl)
bit_other zero (suc j) x n e = omega arith
bit_other (suc i) zero x n e =
    let h : (x + 1) / 2 ≡ x / 2 = omega arith in
    half_bit (x + 1) i ∙ ap (λ (y : ℕ). y / 2 ^ i % 2) h ∙ sym (half_bit x i)
bit_other (suc i) (suc j) x n e =
    let h : (x + 2 ^ suc j) / 2 ≡ x / 2 + 2 ^ j = omega arith in
    half_bit (x + 2 ^ suc j) i ∙ ap (λ (y : ℕ). y / 2 ^ i % 2) h
    ∙ bit_other i j (x / 2) (λ z. n (ap suc z)) (sym (half_bit x j) ∙ e) ∙ sym (half_bit x i)

bit_room : (n j x : ℕ) → j < n → x < 2 ^ n → x / 2 ^ j % 2 ≡ 0 → x + 2 ^ j < 2 ^ n
bit_room zero j x h l e = absurd (omega arith)
bit_room (suc n) zero x h l e = omega arith
bit_room (suc n) (suc j) x h l e =
    let r : x / 2 + 2 ^ j < 2 ^ n = bit_room n j (x / 2) (omega arith) (omega arith) (sym (half_bit x j) ∙ e) in
    omega arith

-- 1, shifted to a bit of a byte
shifted : (k : ℕ) → k < 8 → (1 * 2 ^ k) % 2 ^ 8 ≡ 2 ^ k
shifted k h = shl_exact 1 k 8 (omega arith) (omega arith) ∙ omega arith

-- MARKS
module _ (seen : List ℕ) (a : ℕ) where
  abbrev byte : ℕ  -- the byte of an address's mark
  byte = get_or seen (a / 8) 0

  pub length_marked : length (marked seen a) ≡ length seen
  unfolding marked
  length_marked = length-set seen (a / 8) (byte + 2 ^ (a % 8))

  unmarked : is_marked seen a ≡ false → byte / 2 ^ (a % 8) % 2 ≡ 0
  unfolding is_marked
  unmarked new = let n = eqb-false (byte / 2 ^ (a % 8) % 2) 1 new in omega arith

  -- what the code adds has room, and makes the mark
  pub mark_fits : byte < 2 ^ 8 → is_marked seen a ≡ false → byte + (1 * 2 ^ (a % 8)) % 2 ^ 8 < 2 ^ 8
  mark_fits h new = rw (shifted (a % 8) (omega arith)) (bit_room 8 (a % 8) byte (omega arith) h (unmarked new))

  pub mark_made : set seen (a / 8) (byte + (1 * 2 ^ (a % 8)) % 2 ^ 8) ≡ marked seen a
  unfolding marked
  mark_made = rw (shifted (a % 8) (omega arith))

  -- the address is marked then, and others are as before
  module _ (l : a / 8 < length seen) (new : is_marked seen a ≡ false) where
    pub marked-same : is_marked (marked seen a) a ≡ true
    unfolding is_marked marked
    marked-same =
        rw (get_or-set_same seen (a / 8) (byte + 2 ^ (a % 8)) 0 l) (eq-eqb ((byte + 2 ^ (a % 8)) / 2 ^ (a % 8) % 2) 1 (bit_same (a % 8) byte (unmarked new)))

    pub marked_other : (x : ℕ) → (x ≡ a → ⊥) → is_marked (marked seen a) x ≡ is_marked seen x
    unfolding is_marked marked
    marked_other x n =
        by_test (eqb (x / 8) (a / 8))
        (λ t.
        let q : x / 8 ≡ a / 8 = eqb-true (x / 8) (a / 8) t in
        rw (q, get_or-set_same seen (a / 8) (byte + 2 ^ (a % 8)) 0 l)
        (ap (λ (b : ℕ). eqb b 1) (bit_other (x % 8) (a % 8) byte (λ z. n (omega arith)) (unmarked new))))
        (λ t. rw (get_or-set_other seen (a / 8) (x / 8) (byte + 2 ^ (a % 8)) 0 (eqb-false (x / 8) (a / 8) t)))
