-- Numbers, digit by digit.
-- Assumes nothing.
use mathlib.Core.Path.{◌≡◌, refl, sym, ap, ◌∙◌}
use mathlib.Core.Bool.{true, false}
use mathlib.Core.List.{List, [], ◌∷◌}
use mathlib.Core.Option.{Option, none, some}
use Prim.Native.Nat.{ℕ, ◌+◌, ◌-◌, ◌*◌, ◌%◌, ◌^◌, ◌≤◌, ◌<◌}
use native.Mathlib.Omega.{arith}
use native.Mathlib.Nat.{mul-le-mul_left, mul-one, pow-suc, pow-le-pow_right}
use native.Mathlib.Numerals.{add-one}
use lib.ListN.{length, drop, get_or, drop_of_length-le}
use lib.Dec.{leb, ltb, eqb}
use borrow.Author.Tests.{leb-true, lt-ltb, le-ltb, eq-eqb, ne_eqb, ltb-true, ltb-false, eqb-true, eqb-false}
use Rattle.format.specs.Basics.{and_then, is_empty, eqs, ascii}
use Rattle.format.specs.TextReader.{digit_value, digits_from, below_limit, parse_number, hex2u16, maybe_hex2u16}
use Rattle.text_cells.specs.Cells.{digit_or16}
use Rattle.format.specs.Utf8.{is_between}
use Rattle.format.proofs.ListLaws.{both}
use Rattle.format.proofs.Outcomes.{by_if}
use Rattle.text_lines.proofs.TestLaws.{by_test, front, within-yes, within_low, within-high}

-- a digit
digit_no : (base b : ℕ) → base ≤ digit_or16 b → digit_value base b ≡ none
unfolding digit_value digit_or16
digit_no base b h = simp (le-ltb (digit_or16 b) base h)

digit_yes : (base b : ℕ) → digit_or16 b < base → digit_value base b ≡ some (digit_or16 b)
unfolding digit_value digit_or16
digit_yes base b h = simp (lt-ltb (digit_or16 b) base h)

module _ (base v : ℕ) (s : List ℕ) (i : ℕ) where
  pub from-bad : i < length s → base ≤ digit_or16 (get_or s i 0) → digits_from base v (drop i s) ≡ none
  unfolding digits_from
  from-bad h l = rw (front 0 s i h, digit_no base (get_or s i 0) l)

  pub from_on : i < length s → digit_or16 (get_or s i 0) < base → digits_from base v (drop i s) ≡ digits_from base (v * base + digit_or16 (get_or s i 0)) (drop (i + 1) s)
  unfolding digits_from
  from_on h l = rw (front 0 s i h, digit_yes base (get_or s i 0) l)

  pub from_end : length s ≤ i → digits_from base v (drop i s) ≡ some v
  unfolding digits_from
  from_end h = rw (drop_of_length-le s h)

grows : (base n d : ℕ) → 0 < base → n ≤ n * base + d
grows base n d h = let e : n * 1 ≤ n * base = mul-le-mul_left n h in omega (arith, mul-one n)

-- past the limit nothing is read
pub from-over : (limit base : ℕ) → 0 < base → (bs : List ℕ) (n : ℕ) → limit ≤ n → below_limit limit (digits_from base n bs) ≡ none
unfolding digits_from digit_value
from-over limit base p [] n h = simp (le-ltb n limit h)
from-over limit base p (b ∷ bs) n h = go (digit_value base b) (λ d. from-over limit base p bs (n * base + d) (let g = grows base n d p in omega arith))
  where
    go : (o : Option ℕ) → ((d : ℕ) → below_limit limit (digits_from base (n * base + d) bs) ≡ none) → below_limit limit (and_then o λ (d : ℕ). digits_from base (n * base + d) bs) ≡ none
    go none r = refl
    go (some d) r = r d

-- a digit that is none, or makes too much
pub number_stop : (base max v : ℕ) (s : List ℕ) (i : ℕ) → 0 < base → i < length s
    → (digit_or16 (get_or s i 0) < base → max + 1 ≤ v * base + digit_or16 (get_or s i 0)) → below_limit (max + 1) (digits_from base v (drop i s)) ≡ none
number_stop base max v s i p h k =
    by_test (ltb (digit_or16 (get_or s i 0)) base)
    (λ t. let l = ltb-true (digit_or16 (get_or s i 0)) base t in
    ap (below_limit (max + 1)) (from_on base v s i h l) ∙ from-over (max + 1) base p (drop (i + 1) s) (v * base + digit_or16 (get_or s i 0)) (k l))
    (λ t. ap (below_limit (max + 1)) (from-bad base v s i h (ltb-false (digit_or16 (get_or s i 0)) base t)))

pub below_some : (limit v : ℕ) → v < limit → below_limit limit (some v) ≡ some v
below_some limit v h = simp (lt-ltb v limit h)

pub below_none : (limit v : ℕ) → limit ≤ v → below_limit limit (some v) ≡ none
below_none limit v h = simp (le-ltb v limit h)

-- the number of a cell: none without a digit
pub number-none : (base limit : ℕ) (s : List ℕ) → length s ≡ 0 → none ≡ parse_number base limit s
unfolding parse_number is_empty
number-none base limit [] h = refl
number-none base limit (b ∷ bs) h = absurd (omega arith)

pub number-from : (base limit : ℕ) (s : List ℕ) → 0 < length s → below_limit limit (digits_from base 0 s) ≡ parse_number base limit s
unfolding parse_number is_empty
number-from base limit [] h = absurd (omega arith)
number-from base limit (b ∷ bs) h = refl

pub digits_alone : (base : ℕ) (s : List ℕ) (v limit : ℕ) → 0 < length s → digits_from base 0 s ≡ some v → parse_number base limit s ≡ below_limit limit (some v)
digits_alone base s v limit h e = sym (number-from base limit s h) ∙ ap (below_limit limit) e

-- decimal digits
low-none : (b : ℕ) → b < 48 → 10 ≤ digit_or16 b
unfolding digit_or16
low-none b h = simp (within_low 48 57 b h, within_low 65 70 b (omega arith), within_low 97 102 b (omega arith)) (omega arith)

high-none : (b : ℕ) → 57 < b → 10 ≤ digit_or16 b
unfolding digit_or16
high-none b h =
    rw (within-high 48 57 b h)
    (by_if (λ (d : ℕ). 10 ≤ d) (is_between 65 70 b) _ _ (λ t. let l = leb-true 65 b (both (leb 65 b) (leb b 70) t).0 in omega arith)
    (λ _. by_if (λ (d : ℕ). 10 ≤ d) (is_between 97 102 b) _ _ (λ t. let l = leb-true 97 b (both (leb 97 b) (leb b 102) t).0 in omega arith) (λ _. omega arith)))

decimal_digit : (b : ℕ) → 48 ≤ b → b ≤ 57 → digit_or16 b ≡ b % 16
unfolding digit_or16
decimal_digit b l u = let e : b - 48 ≡ b % 16 = omega arith in simp (within-yes 48 57 b l u) e

module _ (s : List ℕ) (v i : ℕ) (h : i < length s) where
  pub decimal-on :
      48 ≤ get_or s i 0 → get_or s i 0 ≤ 57 → digits_from 10 (v * 10 + get_or s i 0 % 16) (drop (i + 1) s) ≡ digits_from 10 v (drop i s)
  decimal-on l u =
      let d = decimal_digit (get_or s i 0) l u in
      ap (λ (x : ℕ). digits_from 10 (v * 10 + x) (drop (i + 1) s)) (sym d) ∙ sym (from_on 10 v s i h (omega (arith, d)))

  module _ (max : ℕ) (e : digits_from 10 v (drop i s) ≡ digits_from 10 0 s) where
    stop : (digit_or16 (get_or s i 0) < 10 → max + 1 ≤ v * 10 + digit_or16 (get_or s i 0)) → none ≡ parse_number 10 (max + 1) s
    stop k =
        sym (number_stop 10 max v s i (omega arith) h k) ∙ ap (below_limit (max + 1)) e ∙ number-from 10 (max + 1) s (omega arith)

    pub decimal-low : get_or s i 0 < 48 → none ≡ parse_number 10 (max + 1) s
    decimal-low l = stop (λ k. absurd (omega (arith, low-none (get_or s i 0) l, k)))

    pub decimal-high : 57 < get_or s i 0 → none ≡ parse_number 10 (max + 1) s
    decimal-high l = stop (λ k. absurd (omega (arith, high-none (get_or s i 0) l, k)))

    -- more than 64 bits
    pub decimal-over : 48 ≤ get_or s i 0 → get_or s i 0 ≤ 57 → max + 1 ≤ v * 10 + get_or s i 0 % 16 → none ≡ parse_number 10 (max + 1) s
    decimal-over l u o = stop (λ k. omega (arith, decimal_digit (get_or s i 0) l u, o))

pub hex_no : (s : List ℕ) → (length s ≡ 4 → ⊥) → none ≡ hex2u16 s
unfolding hex2u16
hex_no s h = rw (ne_eqb (length s) 4 h)

pub hex_yes : (s : List ℕ) → length s ≡ 4 → parse_number 16 65536 s ≡ hex2u16 s
unfolding hex2u16
hex_yes s h = rw (eq-eqb (length s) 4 h)

-- four digits, one after the other
pub hex_bound : (i : ℕ) → i < 4 → 16 ^ i ≤ 65536
hex_bound i h = pow-le-pow_right {n = 16} (omega arith) {i = i} {j = 4} (omega arith)

pub hex_small_on : (i v d : ℕ) → v < 16 ^ i → d < 16 → v * 16 + d < 16 ^ (i + 1)
hex_small_on i v d h l = let p : 16 ^ (i + 1) ≡ 16 ^ i * 16 = rw add-one (pow-suc 16 i) in rw p (omega arith)

pub hex_room-on : (i v d : ℕ) → v + 2 ≤ 2 * 16 ^ i → d ≤ 16 → v * 16 + d + 2 ≤ 2 * 16 ^ (i + 1)
hex_room-on i v d h l = let p : 16 ^ (i + 1) ≡ 16 ^ i * 16 = rw add-one (pow-suc 16 i) in rw p (omega arith)

pub hex_four : (s : List ℕ) (v : ℕ) → length s ≡ 4 → v < 16 ^ 4 → digits_from 16 v (drop 4 s) ≡ digits_from 16 0 s → some v ≡ hex2u16 s
hex_four s v l h e =
    sym (digits_alone 16 s v 65536 (omega arith) (sym e ∙ from_end 16 v s 4 (omega arith)) ∙ below_some 65536 v h) ∙ hex_yes s l

pub hex_bad : (s : List ℕ) → length s ≡ 4 → digits_from 16 0 s ≡ none → none ≡ hex2u16 s
hex_bad s l e = sym (ap (below_limit 65536) e) ∙ number-from 16 65536 s (omega arith) ∙ hex_yes s l

-- a number that was read is below the limit
below_small : (limit v : ℕ) (o : Option ℕ) → below_limit limit o ≡ some v → v < limit
below_small limit v none e = let z : ◌≡◌ {A = ℕ} 0 1 = cc in absurd (omega arith)
below_small limit v (some n) e =
    by_test (ltb n limit)
    (λ t. let q : some n ≡ some v = simp t at e in let r : n ≡ v = cc in omega (arith, ltb-true n limit t))
    (λ t. let q : none ≡ some v = simp t at e in let z : ◌≡◌ {A = ℕ} 0 1 = cc in absurd (omega arith))

pub number_small : (base limit : ℕ) (s : List ℕ) (v : ℕ) → parse_number base limit s ≡ some v → v < limit
unfolding parse_number
number_small base limit s v e =
    by_test (is_empty s)
    (λ t. let q : none ≡ some v = simp t at e in let z : ◌≡◌ {A = ℕ} 0 1 = cc in absurd (omega arith))
    (λ t. let q : below_limit limit (digits_from base 0 s) ≡ some v = simp t at e in below_small limit v (digits_from base 0 s) q)

pub hex_small : (s : List ℕ) (v : ℕ) → some v ≡ hex2u16 s → v < 65536
hex_small s v e =
    by_test (eqb (length s) 4)
    (λ t. number_small 16 65536 s v (hex_yes s (eqb-true (length s) 4 t) ∙ sym e))
    (λ t. let q : none ≡ some v = hex_no s (eqb-false (length s) 4 t) ∙ sym e in let z : ◌≡◌ {A = ℕ} 0 1 = cc in absurd (omega arith))

module _ (s : List ℕ) where
  pub entry_unknown : eqs s (63 ∷ 63 ∷ 63 ∷ 63 ∷ []) ≡ true → some none ≡ maybe_hex2u16 s
  unfolding maybe_hex2u16 ascii
  entry_unknown t = rw t

  pub entry_hex : (o : Option ℕ) → eqs s (63 ∷ 63 ∷ 63 ∷ 63 ∷ []) ≡ false → o ≡ hex2u16 s → and_then o (λ (v : ℕ). some (some v)) ≡ maybe_hex2u16 s
  unfolding maybe_hex2u16 ascii
  entry_hex o t e = rw (t, ← e)
