-- What is written as a numeral reads back, to every base up to 16. Assumes nothing.
use mathlib.Core.Path.{◌≡◌, refl, ◌∙◌, ap, subst}
use mathlib.Core.Bool.{Bool, true, false}
use mathlib.Core.List.{List, ◌∷◌}
use mathlib.Core.Option.{some}
use Prim.Native.Nat.{ℕ, zero, suc, ◌+◌, ◌-◌, ◌*◌, ◌/◌, ◌%◌, ◌^◌, ◌≤◌, ◌<◌}
use native.Mathlib.Nat.{pow-suc, pow-zero, div-add-mod', div-lt_iff_lt-mul, mod-lt}
use native.Mathlib.Omega.{arith}
use lib.Dec.{ltb}
use borrow.Author.Tests.{ltb-true, ltb-false, lt-ltb, le-leb, lt-leb}
use Rattle.std.specs.Prelude.{if◌then◌else◌}
use Rattle.format.specs.TextWriter.{lower_digit, numeral}
use Rattle.format.specs.TextReader.{digit_value, digits_from}

pub digit_lower : (base d : ℕ) → base ≤ 16 → d < base → digit_value base (lower_digit d) ≡ some d
unfolding digit_value
digit_lower base d hb hd = go (ltb d 10) refl
  where
    go : (t : Bool) → ltb d 10 ≡ t → digit_value base (if t then 48 + d else 87 + d) ≡ some d
    go true e =
        let h : d < 10 = ltb-true d 10 e in
        let s : 48 + d - 48 ≡ d = omega arith in
        rw (le-leb 48 (48 + d) (omega arith), le-leb (48 + d) 57 (omega arith), s, lt-ltb d base hd)
    go false e =
        let h : 10 ≤ d = ltb-false d 10 e in
        let s : 87 + d - 87 ≡ d = omega arith in
        rw (le-leb 48 (87 + d) (omega arith), lt-leb (87 + d) 57 (omega arith), le-leb 65 (87 + d) (omega arith), lt-leb (87 + d) 70 (omega arith), le-leb 97 (87 + d) (omega arith), le-leb (87 + d) 102 (omega arith), s, lt-ltb d base hd)

pub numeral-back :
    (base : ℕ) → base ≤ 16 → 2 ≤ base → (k n : ℕ) (ds : List ℕ) → n < base ^ suc k → digits_from base 0 (numeral k base n ds) ≡ digits_from base n ds
unfolding digits_from numeral
numeral-back base hb h2 zero n ds h =
    let b : n < base = subst (λ (m : ℕ). n < m) (pow-suc base 0 ∙ ap (λ (m : ℕ). m * base) (pow-zero base) ∙ omega arith) h in
    let z : 0 * base + n ≡ n = omega arith in
    rw (digit_lower base n hb b, z)
numeral-back base hb h2 (suc k) n ds h = go (ltb n base) refl (numeral-back base hb h2 k (n / base) (lower_digit (n % base) ∷ ds) small)
  where
    small : n / base < base ^ suc k
    small = let pos : 0 < base = omega arith in (div-lt_iff_lt-mul pos).1 (subst (λ (m : ℕ). n < m) (pow-suc base (suc k)) h)

    go : (t : Bool) → ltb n base ≡ t
        → digits_from base 0 (numeral k base (n / base) (lower_digit (n % base) ∷ ds)) ≡ digits_from base (n / base) (lower_digit (n % base) ∷ ds)
        → digits_from base 0 (if t then lower_digit n ∷ ds else numeral k base (n / base) (lower_digit (n % base) ∷ ds)) ≡ digits_from base n ds
    go true e ih = let z : 0 * base + n ≡ n = omega arith in rw (digit_lower base n hb (ltb-true n base e), z)
    go false e ih = ih ∙ rw (digit_lower base (n % base) hb (mod-lt n (omega arith)), div-add-mod' n base)
