-- The parts of a record, element by element. Assumes nothing.
use mathlib.Core.Path.{◌≡◌, sym, ap, ap₂, ◌∙◌}
use mathlib.Core.List.{List, [], ◌∷◌, ◌++◌, flat_map}
use Prim.Native.Nat.{ℕ, ◌+◌, ◌*◌, ◌/◌, ◌%◌, ◌^◌, ◌≤◌, ◌<◌}
use native.Mathlib.Omega.{arith}
use lib.ListN.{length, drop, get_or, drop_of_length-le}
use lib.Dec.{eqb}
use borrow.Author.Tests.{eqb-true}
use Rattle.format.specs.Digits.{digits_of}
use Rattle.format.specs.Binary.{memory_bytes}
use Rattle.format.proofs.ListLaws.{by_test}
use Rattle.object.specs.Access.{memory_in, address_in}
use Rattle.writing.proofs.EachLaws.{flat_map_at}
use Rattle.binary_write.specs.Files.{flag_of, memory_part, address_part}

-- the low byte of a sum
low_byte : (m k d : ℕ) → m ≡ 256 * k + d → m % 256 ≡ d % 256
low_byte m k d e = omega arith

high_byte : (w : ℕ) → w % 2 ^ 16 / 256 % 256 ≡ w / 256 % 256
high_byte w = sym (low_byte (w / 256) (w / 2 ^ 16) (w % 2 ^ 16 / 256) (omega arith))

-- a memory word's three bytes, and an address's two, straight from the word
memory_bytes_lem : (w : ℕ) → memory_bytes (memory_in w) ≡ flag_of w ∷ w % 256 ∷ w / 256 % 256 ∷ []
unfolding memory_in digits_of
memory_bytes_lem w =
    by_test (eqb (w % 2 ^ 29) 0)
    (λ t. let z = eqb-true (w % 2 ^ 29) 0 t in
    let a : 0 ≡ w % 256 = omega arith in
    let b : 0 ≡ w / 256 % 256 = sym (low_byte (w / 256) (2 ^ 13 * (w / 2 ^ 29)) 0 (omega arith)) in
    simp t (ap₂ (λ x y. 0 ∷ x ∷ y ∷ []) a b))
    (λ t. let a : w % 2 ^ 16 % 256 ≡ w % 256 = omega arith in
    simp t (ap₂ (λ x y. 0xFF ∷ x ∷ y ∷ []) a (high_byte w)))

address-bytes : (w : ℕ) → digits_of 8 2 (address_in w) ≡ w % 256 ∷ w / 256 % 256 ∷ []
unfolding digits_of
address-bytes w =
    let a : w % 2 ^ 16 % 256 ≡ w % 256 = omega arith in
    ap₂ (λ x y. x ∷ y ∷ []) a (high_byte w)

-- what is left of the words, for the loops
module _ (ws : List ℕ) (i : ℕ) where
  pub memory_here : i < length ws → memory_part (drop i ws)
      ≡ flag_of (get_or ws i 0) ∷ get_or ws i 0 % 256 ∷ get_or ws i 0 / 256 % 256 ∷ memory_part (drop (i + 1) ws)
  unfolding memory_part
  memory_here h =
      flat_map_at (λ w. memory_bytes (memory_in w)) 0 ws i h
      ∙ ap (λ bs. bs ++ flat_map (λ w. memory_bytes (memory_in w)) (drop (i + 1) ws)) (memory_bytes_lem (get_or ws i 0))

  pub memory_end : length ws ≤ i → memory_part (drop i ws) ≡ []
  unfolding memory_part flat_map
  memory_end h = ap memory_part (drop_of_length-le ws h)

  pub addresses-here : i < length ws → address_part (drop i ws)
      ≡ get_or ws i 0 % 256 ∷ get_or ws i 0 / 256 % 256 ∷ address_part (drop (i + 1) ws)
  unfolding address_part
  addresses-here h =
      flat_map_at (λ w. digits_of 8 2 (address_in w)) 0 ws i h
      ∙ ap (λ bs. bs ++ flat_map (λ w. digits_of 8 2 (address_in w)) (drop (i + 1) ws)) (address-bytes (get_or ws i 0))

  pub addresses-end : length ws ≤ i → address_part (drop i ws) ≡ []
  unfolding address_part flat_map
  addresses-end h = ap address_part (drop_of_length-le ws h)
