-- What a sequence of questions comes to, and tests on lists that compute. Assumes nothing.
use Rattle.std.specs.Prelude.{if◌then◌else◌, Bool, true, false, ◌&&◌, ℕ, zero, suc, eqb}
use mathlib.Core.List.{List, [], ◌∷◌, flat_map}
use Rattle.std.proofs.Math.Option.{Option, none, some}
use Prim.Native.Char.{code}
use Prim.Native.String.{String, [] as []ˢ, ◌∷◌ as ◌∷ˢ◌}

infixl 10 ◌>>=◌
-- "Asked in this order; 'no' gives the number": a refusal's number, or what was asked for.
pub data Outcome (A : Type 0) : Type 0 where
  refused : ℕ → Outcome A
  given : A → Outcome A

-- the next question, where the ones before it were answered yes
abbrev pub ◌>>=◌ : {A B : Type 0} → Outcome A → (A → Outcome B) → Outcome B
◌>>=◌ (refused n) f = refused n
◌>>=◌ (given a) f = f a

abbrev pub is_given : {A : Type 0} → Outcome A → Bool  -- all questions were answered yes
is_given (refused n) = false
is_given (given a) = true

abbrev pub given_or : {A : Type 0} → Outcome A → A → A  -- a default where it is refused
given_or (refused n) d = d
given_or (given a) d = a

-- a question: "no" gives the number
abbrev pub ask : ℕ → Bool → Outcome (Unit {0})
ask n true = given tt
ask n false = refused n

-- what may be missing: the number where it is
abbrev pub need : {A : Type 0} → ℕ → Option A → Outcome A
need n none = refused n
need n (some a) = given a

-- of what may be missing, something more
abbrev pub and_then : {A B : Type 0} → Option A → (A → Option B) → Option B
and_then none f = none
and_then (some a) f = f a

unfoldable pub is_some : {A : Type 0} → Option A → Bool  -- it is not missing
is_some none = false
is_some (some a) = true

-- the codes of a text's characters: of an ASCII text, its bytes
unfoldable pub ascii : String → List ℕ
ascii []ˢ = []
ascii (c ∷ˢ s) = code c ∷ ascii s

module _ {A : Type 0} where
  unfoldable pub is_empty : List A → Bool  -- it has no elements
  is_empty [] = true
  is_empty (x ∷ xs) = false

  unfoldable pub every : (A → Bool) → List A → Bool  -- all elements pass the test
  every p [] = true
  every p (x ∷ xs) = p x && every p xs

  -- the elements that pass the test
  unfoldable pub keep : (A → Bool) → List A → List A
  keep p [] = []
  keep p (x ∷ xs) = if p x then x ∷ keep p xs else keep p xs

  -- neighbours all stand in the relation
  unfoldable pub chain : (A → A → Bool) → List A → Bool
  chain r [] = true
  chain r (x ∷ []) = true
  chain r (x ∷ y ∷ zs) = r x y && chain r (y ∷ zs)

-- how many of the numbers below n pass the test: "exactly 25 characters get its yes" (document 02, P6) is about it
unfoldable pub how_many : (ℕ → Bool) → ℕ → ℕ
how_many p zero = 0
how_many p (suc n) = if p n then suc (how_many p n) else how_many p n

-- all of them, or none
unfoldable pub all_some : {A B : Type 0} → (A → Option B) → List A → Option (List B)
all_some f [] = some []
all_some f (x ∷ xs) = and_then (f x) λ y. and_then (all_some f xs) λ ys. some (y ∷ ys)

-- equal byte for byte
unfoldable pub eqs : List ℕ → List ℕ → Bool
eqs [] [] = true
eqs [] (y ∷ ys) = false
eqs (x ∷ xs) [] = false
eqs (x ∷ xs) (y ∷ ys) = eqb x y && eqs xs ys

-- the second list begins with the first
unfoldable pub begins_with : List ℕ → List ℕ → Bool
begins_with [] ys = true
begins_with (x ∷ xs) [] = false
begins_with (x ∷ xs) (y ∷ ys) = eqb x y && begins_with xs ys

-- a proposition of each element
abbrev pub All : {A : Type 0} → (A → Type 0) → List A → Type 0
All P [] = Unit {0}
All P (x ∷ xs) = P x × All P xs

-- Named on an `unfolding` line, it opens every definition of this module, and the library's `flat_map`; each module ends with its own.
unfoldable pub open-Basics : Unit {0}
unfolding is_some ascii is_empty every keep chain how_many all_some eqs begins_with flat_map
open-Basics = tt
