-- Laws on the definitions: what the shapes cost to prove. Assumes nothing.
use mathlib.Core.Path.{◌≡◌, refl, ◌∙◌, ap}
use mathlib.Core.List.{List, [], ◌∷◌}
use Prim.Native.Nat.{ℕ, zero, suc, ◌+◌, ◌*◌, ◌/◌, ◌%◌, ◌^◌, ◌≤◌, ◌<◌}
use native.Mathlib.Nat.{pow-zero, pow-suc, add_comm, div-add-mod, div-lt_iff_lt-mul, add-mul-mod_self_left, add-mul-div_left, mod-eq_of_lt, div-eq_of_lt, zero-add}
use native.Mathlib.Omega.{arith}
use native.Mathlib.Numerals.{add-one}
use lib.ListN.{length, drop, get_or, drop_of_length-le}
use lib.Seq.{drop-cons}
use lib.Dec.{leb}
use borrow.Author.Tests.{eq-eqb, ne_eqb}
use mathlib.Core.Bool.{true}
use lib.Pow.{pow_pos}
use Rattle.format.specs.Basics.{Outcome, refused, given, ◌>>=◌, All}
use Rattle.format.specs.Digits.{value_of, digits_of}
use Rattle.format.specs.Tokens.{tokens}
use Rattle.format.specs.Utf8.{is_utf8}
use Rattle.format.specs.Records.{source}
use Rattle.format.specs.Binary.{source_from, number_at, bytes_at}
use Rattle.format.specs.Source.{newlines}

-- the digits of a number that fits give it back
pub value_digits : (k n x : ℕ) → x < (2 ^ k) ^ n → value_of k (digits_of k n x) ≡ x
unfolding value_of digits_of
value_digits k zero x h = let e : x < 1 = rw pow-zero at h in omega arith
value_digits k (suc n) x h =
    let e : x < (2 ^ k) ^ n * 2 ^ k = rw pow-suc at h in
    ap (λ (v : ℕ). x % 2 ^ k + 2 ^ k * v) (value_digits k n (x / 2 ^ k) ((div-lt_iff_lt-mul (pow_pos k)).1 e))
    ∙ add_comm (x % 2 ^ k) (2 ^ k * (x / 2 ^ k)) ∙ div-add-mod x (2 ^ k)

abbrev pub AllBelow : ℕ → List ℕ → Type 0
AllBelow b ds = All (λ d. d < b) ds

-- and the value of digits has these digits
pub digits_value : (k : ℕ) (ds : List ℕ) → AllBelow (2 ^ k) ds → digits_of k (length ds) (value_of k ds) ≡ ds
unfolding value_of digits_of
digits_value k [] h = refl
digits_value k (d ∷ ds) h =
    let low : (d + 2 ^ k * value_of k ds) % 2 ^ k ≡ d = add-mul-mod_self_left d (2 ^ k) (value_of k ds) ∙ mod-eq_of_lt h.0 in
    let high : (d + 2 ^ k * value_of k ds) / 2 ^ k ≡ value_of k ds =
    add-mul-div_left d (value_of k ds) (pow_pos k) ∙ ap (λ (q : ℕ). q + value_of k ds) (div-eq_of_lt h.0) ∙ zero-add (value_of k ds) in
    rw (low, high, digits_value k ds h.1)

module _ {A B : Type 0} (one : List A → Outcome (B × ℕ)) where
  pub tokens-drop : (k : ℕ) (xs : List A) → tokens one k xs ≡ tokens one 0 (drop k xs)
  unfolding tokens
  tokens-drop zero [] = refl
  tokens-drop (suc k) [] = refl
  tokens-drop zero (x ∷ xs) = refl
  tokens-drop (suc k) (x ∷ xs) = tokens-drop k xs

  -- a step of a loop: the token at the front, and the rest from its end
  pub tokens-step :
      (x : A) (xs : List A) (b : B) (n : ℕ) → one (x ∷ xs) ≡ given (b, n)
      → tokens one 0 (x ∷ xs) ≡ (tokens one 0 (drop n xs) >>= λ ts. given (b ∷ ts))
  unfolding tokens
  tokens-step x xs b n e = rw (e, tokens-drop n xs)

  pub tokens_stop : (x : A) (xs : List A) (n : ℕ) → one (x ∷ xs) ≡ refused n → tokens one 0 (x ∷ xs) ≡ refused n
  unfolding tokens
  tokens_stop x xs n e = rw e

-- A source record: the reader's path for bytes of which its questions are answered.
pub source-from :
    (bs s : List ℕ) (n : ℕ) → leb 8 (length bs) ≡ true → number_at 0 8 bs ≡ n → leb (8 + n) (length bs) ≡ true → bytes_at 8 n bs ≡ s → is_utf8 s ≡ true
    → source_from bs ≡ given (source s, 8 + n)
unfolding source_from
source-from bs s n a b c d e = rw (a, b, c, d, e)

pub digits_length : (k n x : ℕ) → length (digits_of k n x) ≡ n
unfolding digits_of
digits_length k zero x = refl
digits_length k (suc n) x = ap suc (digits_length k n (x / 2 ^ k))

-- A step of a loop that counts newlines.
pub newlines-yes : (s : List ℕ) (i : ℕ) → i < length s → get_or s i 0 ≡ 10 → newlines (drop i s) ≡ 1 + newlines (drop (i + 1) s)
unfolding newlines
newlines-yes s i h e = rw (add-one, drop-cons s i 0 h, eq-eqb (get_or s i 0) 10 e) (omega arith)

pub newlines_no : (s : List ℕ) (i : ℕ) → i < length s → (get_or s i 0 ≡ 10 → ⊥) → newlines (drop i s) ≡ newlines (drop (i + 1) s)
unfolding newlines
newlines_no s i h e = rw (add-one, drop-cons s i 0 h, ne_eqb (get_or s i 0) 10 e) refl

pub newlines-end : (s : List ℕ) (i : ℕ) → length s ≤ i → newlines (drop i s) ≡ 0
unfolding newlines
newlines-end s i h = rw (drop_of_length-le s h)
