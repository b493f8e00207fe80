-- Digits filled from the last, one a turn. Assumes nothing.
use mathlib.Core.Path.{◌≡◌, refl, sym, ap, subst, ◌∙◌}
use mathlib.Core.List.{List, [], ◌∷◌}
use Prim.Native.Nat.{ℕ, zero, suc, ◌+◌, ◌-◌, ◌*◌, ◌/◌, ◌%◌, ◌^◌, ◌≤◌, ◌<◌}
use native.Mathlib.Nat.{pow-suc, pow-zero, div-lt_iff_lt-mul, mul-le-mul_left}
use native.Mathlib.Numerals.{add-one}
use native.Mathlib.Omega.{arith}
use lib.ListN.{length, drop, set, take, length-append, length-set, length-drop, drop_of_length-le}
use lib.Seq.{take_all}
use borrow.Author.Tests.{lt-ltb, le-ltb}
use mathlib.Core.List.{◌++◌}
use Rattle.format.specs.Digits.{digits_of}
use Rattle.format.specs.TextWriter.{upper_digit, lower_digit, numeral, hex4, decimal, spaces, to_right}
use Rattle.writing.specs.Written.{Put}

numeral-on : (k base v : ℕ) (ds : List ℕ) → base ≤ v → numeral (suc k) base v ds ≡ numeral k base (v / base) (lower_digit (v % base) ∷ ds)
unfolding numeral
numeral-on k base v ds h = rw (le-ltb v base h)

numeral-last : (k base v : ℕ) (ds : List ℕ) → v < base → numeral k base v ds ≡ lower_digit v ∷ ds
unfolding numeral
numeral-last zero base v ds h = refl
numeral-last (suc k) base v ds h = rw (lt-ltb v base h)

-- HOW MANY DIGITS the numbers from b up to c have
abbrev Sized : ℕ → ℕ → ℕ → ℕ → Type 0
Sized k b c m = (n : ℕ) (ds : List ℕ) → b ≤ n → n < c → length (numeral k 10 n ds) ≡ m + length ds

sized-one : (k b : ℕ) → Sized k b 10 1
sized-one k b n ds h l = let e = ap length (numeral-last k 10 n ds l) in omega arith

sized-more : (k b c m : ℕ) → 1 ≤ b → Sized k b c m → Sized (suc k) (10 * b) (10 * c) (m + 1)
sized-more k b c m o s n ds h l =
    let e = ap length (numeral-on k 10 n ds (omega arith)) in
    let f = s (n / 10) (lower_digit (n % 10) ∷ ds) (omega arith) (omega arith) in
    omega arith

module _ (n : ℕ) where
  pub one_digit : n < 10 → 1 ≡ length (decimal n)
  unfolding decimal
  one_digit l = omega (arith, sized-one 19 0 n [] (omega arith) l)

  pub two_digits : 10 ≤ n → n < 100 → 2 ≡ length (decimal n)
  unfolding decimal
  two_digits h l = omega (arith, sized-more 18 1 10 1 (omega arith) (sized-one 18 1) n [] h l)

  pub three_digits : 100 ≤ n → n < 1000 → 3 ≡ length (decimal n)
  unfolding decimal
  three_digits h l =
      omega (arith, sized-more 18 10 100 2 (omega arith) (sized-more 17 1 10 1 (omega arith) (sized-one 17 1)) n [] h l)

  pub four_digits : 1000 ≤ n → n < 10000 → 4 ≡ length (decimal n)
  unfolding decimal
  four_digits h l =
      omega (
        arith,
        sized-more 18 100 1000 3 (omega arith)
            (sized-more 17 10 100 2 (omega arith) (sized-more 16 1 10 1 (omega arith) (sized-one 16 1))) n [] h l,
      )

  pub five_digits : 10000 ≤ n → n < 100000 → 5 ≡ length (decimal n)
  unfolding decimal
  five_digits h l =
      omega (
        arith,
        sized-more 18 1000 10000 4 (omega arith)
            (sized-more 17 100 1000 3 (omega arith)
            (sized-more 16 10 100 2 (omega arith) (sized-more 15 1 10 1 (omega arith) (sized-one 15 1)))) n [] h l,
      )

pub drop-set : (xs : List ℕ) (j x : ℕ) → j < length xs → drop j (set xs j x) ≡ x ∷ drop (suc j) xs
drop-set [] j x h = absurd (omega arith)
drop-set (b ∷ bs) zero x h = refl
drop-set (b ∷ bs) (suc j) x h = drop-set bs j x (omega arith)

-- a power with one factor less
two-left : (base v i : ℕ) → 2 ≤ base → base ≤ v → v < base ^ i → 2 ≤ i
two-left base v zero hb h s = let e : base ^ 0 ≡ 1 = pow-zero base in absurd (omega arith)
two-left base v (suc zero) hb h s = let e : base ^ 1 ≡ base ^ 0 * base = pow-suc base 0 in let f : base ^ 0 ≡ 1 = pow-zero base in let g : base ^ 1 ≡ 1 * base = e ∙ ap (λ (y : ℕ). y * base) f in absurd (omega arith)
two-left base v (suc (suc i)) hb h s = omega arith

-- THE LOOP: the digits of n from place i on stand, and those of v are to come before them
pub record Making (base n : ℕ) (bytes : List ℕ) (i v : ℕ) : Type 0 where
  pub size : length bytes ≡ 20
  pub place : 1 ≤ i
  pub few : i ≤ 20
  pub small : v < base ^ i
  pub same : numeral (i - 1) base v (drop i bytes) ≡ numeral 19 base n []

pub making_begin : (base n : ℕ) (bytes : List ℕ) → length bytes ≡ 20 → n < base ^ 20 → Making base n bytes 20 n
making_begin base n bytes e h =
    record { size = e; place = omega arith; few = omega arith; small = h; same = ap (numeral 19 base n) (drop_of_length-le bytes {i = 20} (omega arith)) }

module _ (base n : ℕ) (bytes : List ℕ) (i v : ℕ) (two : 2 ≤ base) (m : Making base n bytes i v) where
  stored : (x : ℕ) → drop (i - 1) (set bytes (i - 1) x) ≡ x ∷ drop i bytes
  stored x =
      let p : 1 ≤ i = m.place in
      let k : suc (i - 1) ≡ i = omega arith in
      drop-set bytes (i - 1) x (omega (arith, m.size, m.few)) ∙ ap (λ (j : ℕ). x ∷ drop j bytes) k

  pub making_on : base ≤ v → (x : ℕ) → x ≡ lower_digit (v % base) → Making base n (set bytes (i - 1) x) (i - 1) (v / base)
  making_on h x e =
      let t : 2 ≤ i = two-left base v i two h m.small in
      let k : i - 1 ≡ suc (i - 1 - 1) = omega arith in
      let j : i ≡ suc (i - 1) = omega arith in
      let s : v < base ^ (i - 1) * base = subst (λ (y : ℕ). v < y) (ap (λ (z : ℕ). base ^ z) j ∙ pow-suc base (i - 1)) m.small in
      record {
        size = length-set bytes (i - 1) x ∙ m.size;
        place = omega arith;
        few = omega (arith, m.few);
        small = let pos : 0 < base = omega arith in (div-lt_iff_lt-mul {k = base} pos).1 s;
        same = ap (numeral (i - 1 - 1) base (v / base)) (stored x ∙ ap (λ (y : ℕ). y ∷ drop i bytes) e)
            ∙ sym (numeral-on (i - 1 - 1) base v (drop i bytes) h) ∙ sym (ap (λ (z : ℕ). numeral z base v (drop i bytes)) k) ∙ m.same;
      }

  pub making_end : v < base → (x : ℕ) → x ≡ lower_digit v → drop (i - 1) (set bytes (i - 1) x) ≡ numeral 19 base n []
  making_end h x e = stored x ∙ ap (λ (y : ℕ). y ∷ drop i bytes) e ∙ sym (numeral-last (i - 1) base v (drop i bytes) h) ∙ m.same

-- a quotient is smaller
pub less : (base v : ℕ) → 2 ≤ base → base ≤ v → v / base < v
less base v two h =
    let pos : 0 < base = omega arith in
    let m : v * 2 ≤ v * base = mul-le-mul_left v two in
    let d : v < v * base = omega arith in
    (div-lt_iff_lt-mul {k = base} pos).1 d

-- as many digits as lie from the start to the end
pub count_of : (s : ℕ) (bytes ds : List ℕ) → s < 20 → length bytes ≡ 20 → drop s bytes ≡ ds → 20 - s ≡ length ds
count_of s bytes ds h e q = omega (arith, length-drop s bytes, ap length q)

pub made :
    (v a b c d : ℕ) → a ≡ upper_digit (v / 16 / 16 / 16 % 16) → b ≡ upper_digit (v / 16 / 16 % 16) → c ≡ upper_digit (v / 16 % 16)
    → d ≡ upper_digit (v % 16) → a ∷ b ∷ c ∷ d ∷ [] ≡ hex4 v
unfolding hex4 digits_of
made v a b c d ea eb ec ed = rw (ea, eb, ec, ed)

-- spaces
more : (n i : ℕ) → i < n → drop i (spaces n) ≡ 0x20 ∷ drop (suc i) (spaces n)
more zero i h = absurd (omega arith)
more (suc n) zero h = refl
more (suc n) (suc i) h = more n i (omega arith)

pub spaces_at : (n i : ℕ) → i < n → drop i (spaces n) ≡ 0x20 ∷ drop (i + 1) (spaces n)
spaces_at n i h = more n i h ∙ ap (λ (j : ℕ). 0x20 ∷ drop j (spaces n)) (sym (add-one i))

pub spaces-length : (n : ℕ) → length (spaces n) ≡ n
spaces-length zero = refl
spaces-length (suc n) = ap suc (spaces-length n)

-- the digits lent are the numeral
pub as_numeral :
    (base n s : ℕ) (bytes room : List ℕ) (r : ℕ) (after : List ℕ) → length bytes ≡ 20 → drop s bytes ≡ numeral 19 base n []
    → Put (take (20 - s) (drop s bytes)) room r after → Put (numeral 19 base n []) room r after
as_numeral base n s bytes room r after e q p =
    subst (λ (x : List ℕ). Put x room r after) (take_all (20 - s) (drop s bytes) (omega (arith, length-drop s bytes)) ∙ q) p

pub as_decimal :
    (n s : ℕ) (bytes room : List ℕ) (r : ℕ) (after : List ℕ) → length bytes ≡ 20 → drop s bytes ≡ numeral 19 10 n []
    → Put (take (20 - s) (drop s bytes)) room r after → Put (decimal n) room r after
unfolding decimal
as_decimal n s bytes room r after e q p = as_numeral 10 n s bytes room r after e q p

-- a text in its column
module _ (width : ℕ) (t : List ℕ) where
  pub right_full : width ≤ length t → t ≡ to_right width t
  right_full h = let e : 0 ≡ width - length t = omega arith in ap (λ (k : ℕ). spaces k ++ t) e

  pub right_length : length t ≤ width → length (to_right width t) ≡ width
  right_length h = length-append (spaces (width - length t)) t ∙ omega (arith, spaces-length (width - length t))

  pub right_put : (room : List ℕ) (r : ℕ) (after : List ℕ) → width ≤ length t → Put t room r after → Put (to_right width t) room r after
  right_put room r after h p = subst (λ (x : List ℕ). Put x room r after) (right_full h) p
