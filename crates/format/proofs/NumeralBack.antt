-- The numerals of the text form read back, and what their bytes are. Assumes nothing.
use mathlib.Core.Path.{◌≡◌, refl, ◌∙◌, ap, subst}
use mathlib.Core.Bool.{Bool, true, false, ◌&&◌}
use mathlib.Core.List.{List, [], ◌∷◌}
use mathlib.Core.Option.{Option, none, some}
use Prim.Native.Nat.{ℕ, zero, suc, ◌+◌, ◌-◌, ◌*◌, ◌/◌, ◌%◌, ◌^◌, ◌≤◌, ◌<◌}
use native.Mathlib.Nat.{pow-suc, pow-zero, div-lt_iff_lt-mul, mod-lt}
use native.Mathlib.Omega.{arith}
use lib.ListN.{length}
use lib.Dec.{ltb, eqb}
use borrow.Author.Tests.{ltb-true, ltb-false, lt-ltb, le-ltb, le-leb, lt-leb, ne_eqb}
use Rattle.std.specs.Prelude.{if◌then◌else◌}
use Rattle.format.specs.Basics.{is_empty, ascii, eqs, All}
use Rattle.format.specs.Digits.{digits_of}
use Rattle.format.specs.TextWriter.{lower_digit, upper_digit, numeral, hex4, decimal, memory_text}
use Rattle.format.specs.TextReader.{digit_value, digits_from, parse_number, hex2u16, parse_decimal, maybe_hex2u16}
use Rattle.format.proofs.NumeralLaws.{numeral-back}
use Rattle.format.proofs.Ranges.{Word16}

-- the bytes of numerals, and ?
abbrev pub Numeric : ℕ → Type 0
Numeric b = (48 ≤ b) × (b < 103)

pub upper_digit_lem : (d : ℕ) → d < 16 → digit_value 16 (upper_digit d) ≡ some d
unfolding digit_value
upper_digit_lem d hd = go (ltb d 10) refl
  where
    go : (t : Bool) → ltb d 10 ≡ t → digit_value 16 (if t then 48 + d else 55 + d) ≡ some d
    go true e =
        let h : d < 10 = ltb-true d 10 e in
        let s : 48 + d - 48 ≡ d = omega arith in
        rw (le-leb 48 (48 + d) (omega arith), le-leb (48 + d) 57 (omega arith), s, lt-ltb d 16 hd)
    go false e =
        let h : 10 ≤ d = ltb-false d 10 e in
        let s : 55 + d - 55 ≡ d = omega arith in
        rw (le-leb 48 (55 + d) (omega arith), lt-leb (55 + d) 57 (omega arith), le-leb 65 (55 + d) (omega arith), le-leb (55 + d) 70 (omega arith), s, lt-ltb d 16 hd)

-- of either case
digit_numeric : (letter d : ℕ) → 38 ≤ letter → letter ≤ 87 → d < 16 → Numeric (if ltb d 10 then 48 + d else letter + d)
digit_numeric letter d h k hd = go (ltb d 10) refl
  where
    go : (t : Bool) → ltb d 10 ≡ t → Numeric (if t then 48 + d else letter + d)
    go true e = let l : d < 10 = ltb-true d 10 e in (omega arith, omega arith)
    go false e = let l : 10 ≤ d = ltb-false d 10 e in (omega arith, omega arith)

upper_numeric : (d : ℕ) → d < 16 → Numeric (upper_digit d)
upper_numeric d hd = digit_numeric 55 d (omega arith) (omega arith) hd

pub lower_numeric : (d : ℕ) → d < 16 → Numeric (lower_digit d)
lower_numeric d hd = digit_numeric 87 d (omega arith) (omega arith) hd

four_digits :
    (a b c d x y z w : ℕ) → digit_value 16 a ≡ some x → digit_value 16 b ≡ some y → digit_value 16 c ≡ some z → digit_value 16 d ≡ some w
    → ((0 * 16 + x) * 16 + y) * 16 + z < 2 ^ 12 → w < 16
    → hex2u16 (a ∷ b ∷ c ∷ d ∷ []) ≡ some ((((0 * 16 + x) * 16 + y) * 16 + z) * 16 + w)
unfolding hex2u16 parse_number is_empty digits_from
four_digits a b c d x y z w e f g h l m =
    rw (e, f, g, h, lt-ltb ((((0 * 16 + x) * 16 + y) * 16 + z) * 16 + w) (2 ^ 16) (omega arith))

pub hex_back : (v : ℕ) → v < 2 ^ 16 → hex2u16 (hex4 v) ≡ some v
unfolding hex4 digits_of
hex_back v h =
    let x : ℕ = v / 16 / 16 / 16 % 16 in
    let y : ℕ = v / 16 / 16 % 16 in
    let z : ℕ = v / 16 % 16 in
    let w : ℕ = v % 16 in
    let e : (((0 * 16 + x) * 16 + y) * 16 + z) * 16 + w ≡ v = omega arith in
    four_digits (upper_digit x) (upper_digit y) (upper_digit z) (upper_digit w) x y z w (upper_digit_lem x (omega arith)) (upper_digit_lem y (omega arith)) (upper_digit_lem z (omega arith)) (upper_digit_lem w (omega arith)) (omega arith) (omega arith)
    ∙ ap (λ (n : ℕ). some n) e

pub hex_numeric : (v : ℕ) → All Numeric (hex4 v)
unfolding hex4 digits_of
hex_numeric v =
    (upper_numeric (v / 16 / 16 / 16 % 16) (omega arith), (upper_numeric (v / 16 / 16 % 16) (omega arith), (upper_numeric (v / 16 % 16) (omega arith), (upper_numeric (v % 16) (omega arith), tt))))

pub entry_numeric : (w : Option ℕ) → All Numeric (memory_text w)
unfolding ascii
entry_numeric none = ((omega arith, omega arith), ((omega arith, omega arith), ((omega arith, omega arith), ((omega arith, omega arith), tt))))
entry_numeric (some v) = hex_numeric v

-- not empty, as a shape
abbrev pub Full : List ℕ → Type 0
Full [] = ⊥
Full (b ∷ bs) = Unit {0}

-- what holds of every digit holds of a numeral's bytes, of which there is one at least
pub numeral-all :
    (P : ℕ → Type 0) (base : ℕ) → 2 ≤ base → ((d : ℕ) → d < base → P (lower_digit d)) → (k n : ℕ) (ds : List ℕ) → n < base ^ suc k → All P ds
    → All P (numeral k base n ds) × (1 ≤ length (numeral k base n ds)) × (length (numeral k base n ds) ≤ suc k + length ds)
unfolding numeral
numeral-all P base h2 f zero n ds h a =
    let b : n < base = subst (λ (m : ℕ). n < m) (pow-suc base 0 ∙ ap (λ (m : ℕ). m * base) (pow-zero base) ∙ omega arith) h in
    ((f n b, a), omega arith, omega arith)
numeral-all P base h2 f (suc k) n ds h a = go (ltb n base) refl (numeral-all P base h2 f k (n / base) (lower_digit (n % base) ∷ ds) small (f (n % base) (mod-lt n (omega arith)), a))
  where
    small : n / base < base ^ suc k
    small = let pos : 0 < base = omega arith in (div-lt_iff_lt-mul pos).1 (subst (λ (m : ℕ). n < m) (pow-suc base (suc k)) h)

    more : List ℕ
    more = numeral k base (n / base) (lower_digit (n % base) ∷ ds)

    go : (t : Bool) → ltb n base ≡ t
        → All P more × (1 ≤ length more) × (length more ≤ suc k + suc (length ds))
        → All P (if t then lower_digit n ∷ ds else more) × (1 ≤ length (if t then lower_digit n ∷ ds else more)) × (length (if t then lower_digit n ∷ ds else more) ≤ suc (suc k) + length ds)
    go true e ih = ((f n (ltb-true n base e), a), omega arith, omega arith)
    go false e ih = (ih.0, ih.1, omega (arith, ih.2))

pub full_of : (ds : List ℕ) → 1 ≤ length ds → Full ds
full_of [] h = absurd (omega arith)
full_of (d ∷ ds) h = tt

-- a numeral of a number below the limit
pub number_in : (base limit n : ℕ) (ds : List ℕ) → Full ds → digits_from base 0 ds ≡ some n → n < limit → parse_number base limit ds ≡ some n
unfolding parse_number is_empty
number_in base limit n [] f e l = absurd f
number_in base limit n (b ∷ bs) f e l = rw (e, lt-ltb n limit l)

-- "Hex and decimal cells with a leading `+` are now refused" (P8)
pub plus_refused : (base limit : ℕ) (bs : List ℕ) → base ≤ 16 → parse_number base limit (0x2B ∷ bs) ≡ none
unfolding parse_number is_empty digits_from digit_value
plus_refused base limit bs h = rw (le-ltb 16 base h)

pub decimal_numeric : (n : ℕ) → n < 2 ^ 64 → All Numeric (decimal n) × Full (decimal n)
unfolding decimal
decimal_numeric n h =
    let r = numeral-all Numeric 10 (omega arith) (λ d k. lower_numeric d (omega arith)) 19 n [] (omega arith) tt in
    (r.0, full_of (decimal n) r.1)

pub decimal-back : (limit n : ℕ) → n < 2 ^ 64 → n < limit → parse_decimal limit (decimal n) ≡ some n
unfolding decimal digits_from
decimal-back limit n h l =
    let d = decimal_numeric n h in
    number_in 10 limit n (decimal n) d.1 (numeral-back 10 (omega arith) (omega arith) 19 n [] (omega arith)) l

hex_not_unknown : (v : ℕ) → eqs (hex4 v) (ascii "????") ≡ false
unfolding hex4 digits_of eqs ascii
hex_not_unknown v = go (ltb (v / 16 / 16 / 16 % 16) 10) refl
  where
    go : (t : Bool) → ltb (v / 16 / 16 / 16 % 16) 10 ≡ t
        → eqb (if t then 48 + v / 16 / 16 / 16 % 16 else 55 + v / 16 / 16 / 16 % 16) 63 && eqs (upper_digit (v / 16 / 16 % 16) ∷ upper_digit (v / 16 % 16) ∷ upper_digit (v % 16) ∷ []) (63 ∷ 63 ∷ 63 ∷ []) ≡ false
    go true e = let h = ltb-true (v / 16 / 16 / 16 % 16) 10 e in rw (ne_eqb (48 + v / 16 / 16 / 16 % 16) 63 (λ q. omega arith))
    go false e = let h = ltb-false (v / 16 / 16 / 16 % 16) 10 e in rw (ne_eqb (55 + v / 16 / 16 / 16 % 16) 63 (λ q. omega arith))

pub entry-back : (w : Option ℕ) → Word16 w → maybe_hex2u16 (memory_text w) ≡ some w
unfolding maybe_hex2u16 eqs ascii
entry-back none h = refl
entry-back (some v) h = rw (hex_not_unknown v, hex_back v h)
