-- What is left of a list that a loop passes, element by element. Assumes nothing.
use mathlib.Core.Path.{◌≡◌, sym, ap₂, ◌∙◌}
use mathlib.Core.List.{List, [], ◌∷◌, ◌++◌, flat_map}
use Prim.Native.Nat.{ℕ, ◌+◌, ◌*◌, ◌<◌}
use native.Mathlib.Nat.{mul-zero, mul-suc}
use native.Mathlib.Numerals.{add-one}
use native.Mathlib.Omega.{arith}
use lib.ListN.{length, drop, get_or, length-append}
use lib.Seq.{drop-cons}

-- the element at i, and those after it
pub drop_at_place : {A : Type 0} (d : A) (xs : List A) (i : ℕ) → i < length xs → drop i xs ≡ get_or xs i d ∷ drop (i + 1) xs
drop_at_place d xs i h = rw (add-one, drop-cons xs i d)

module _ {A B : Type 0} (f : A → List B) where
  -- what is made of the element at i, and of those after it
  pub flat_map_at :
      (d : A) (xs : List A) (i : ℕ) → i < length xs → flat_map f (drop i xs) ≡ f (get_or xs i d) ++ flat_map f (drop (i + 1) xs)
  unfolding flat_map
  flat_map_at d xs i h = rw (add-one, drop-cons xs i d)

  -- where k elements are made of each
  pub length-flat_map : (k : ℕ) → ((x : A) → length (f x) ≡ k) → (xs : List A) → length (flat_map f xs) ≡ k * length xs
  unfolding flat_map
  length-flat_map k e [] = sym (mul-zero k)
  length-flat_map k e (x ∷ xs) =
      length-append (f x) (flat_map f xs) ∙ ap₂ (λ (a b : ℕ). a + b) (e x) (length-flat_map k e xs) ∙ omega (arith, mul-suc k (length xs))
