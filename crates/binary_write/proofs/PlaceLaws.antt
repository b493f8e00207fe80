-- The words of a record as a slice of the object. Assumes nothing.
use mathlib.Core.Path.{◌≡◌, refl, sym, ap, ap₂, ◌∙◌}
use mathlib.Core.Bool.{Bool, true, false}
use mathlib.Core.List.{List, [], ◌∷◌, map, flat_map}
use Prim.Native.Nat.{ℕ, suc, ◌+◌, ◌-◌, ◌*◌, ◌/◌, ◌%◌, ◌^◌}
use native.Mathlib.Omega.{arith}
use lib.ListN.{length, take, drop}
use borrow.Rule.Slice.PartMut.{mid_of}
use Rattle.format.specs.Digits.{digits_of}
use Rattle.format.specs.Tokens.{parts_at}
use Rattle.format.specs.Words.{flag_bit, is_head}
use Rattle.format.specs.Binary.{memory_bytes}
use Rattle.format.proofs.ListLaws.{by_test, flat_map-map}
use Rattle.object.specs.Bodies.{body_at}
use Rattle.object.specs.Access.{memory_in, address_in}
use Rattle.object.proofs.BodyLaws.{head-parts, body_parts}
use Rattle.binary_measure.specs.Measured.{Ends}
use Rattle.binary_write.specs.Files.{memory_part, address_part}

before-take : (xs : List ℕ) → take (length (parts_at is_head xs).before) xs ≡ (parts_at is_head xs).before
unfolding parts_at
before-take [] = refl
before-take (x ∷ xs) =
    by_test (is_head x)
    (λ e. let q = ap (λ p. p.before) (head-parts x xs e) in ap (λ b. take (length b) (x ∷ xs)) q ∙ sym q)
    (λ e. let q = ap (λ p. p.before) (body_parts x xs e) in
    ap (λ b. take (length b) (x ∷ xs)) q ∙ ap (λ b. x ∷ b) (before-take xs) ∙ sym q)

-- the words that go on at a place, as they are lent
pub slice_is : (ws : List ℕ) (at end : ℕ) → Ends ws at end → mid_of at (end - at) ws ≡ body_at ws at
unfolding body_at
slice_is ws at end e =
    let n : end - at ≡ length (body_at ws at) = omega (arith, e.0) in ap (λ k. take k (drop at ws)) n ∙ before-take (drop at ws)

pub memory_is : (xs : List ℕ) → flat_map memory_bytes (map memory_in xs) ≡ memory_part xs
unfolding memory_part
memory_is xs = flat_map-map memory_bytes memory_in xs

pub addresses_are : (xs : List ℕ) → flat_map (λ a. digits_of 8 2 a) (map address_in xs) ≡ address_part xs
unfolding address_part
addresses_are xs = flat_map-map (λ a. digits_of 8 2 a) address_in xs

pub length-map : {A B : Type 0} (f : A → B) (xs : List A) → length (map f xs) ≡ length xs
length-map f [] = refl
length-map f (x ∷ xs) = ap suc (length-map f xs)

-- the two low bytes of a count are those of its low 16 bits
pub low-bytes : (n : ℕ) → digits_of 8 2 (n % 2 ^ 16) ≡ digits_of 8 2 n
unfolding digits_of
low-bytes n = ap₂ (λ x y. x ∷ y ∷ []) low high
  where
    low : n % 2 ^ 16 % 256 ≡ n % 256
    low = omega arith

    carry : (m k d : ℕ) → m ≡ 256 * k + d → m % 256 ≡ d % 256
    carry m k d e = omega arith

    high : n % 2 ^ 16 / 256 % 256 ≡ n / 256 % 256
    high = sym (carry (n / 256) (n / 2 ^ 16) (n % 2 ^ 16 / 256) (omega arith))

-- the parts of a record that are lists, as their writers are lent the words
module _ (ws : List ℕ) (at end : ℕ) (e : Ends ws at end) where
  abbrev pub slice : List ℕ
  slice = mid_of at (end - at) ws

  pub count-bytes : {B : Type 0} (f : ℕ → B) → digits_of 8 2 (length (map f (body_at ws at))) ≡ digits_of 8 2 ((end - at) % 2 ^ 16)
  count-bytes f =
      let n : length (body_at ws at) ≡ end - at = omega (arith, e.0) in
      ap (λ k. digits_of 8 2 k) (length-map f (body_at ws at) ∙ n) ∙ sym (low-bytes (end - at))

-- whether a label is external, as a number of one byte
pub flag_byte : (b : Bool) → digits_of 8 1 (flag_bit b) ≡ flag_bit b ∷ []
unfolding digits_of
flag_byte true = refl
flag_byte false = refl
