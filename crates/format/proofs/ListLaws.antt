-- Laws of lists and tests that every other law leans on: what holds of all elements, joined lists, and lists in another order.
-- Assumes nothing.
use mathlib.Core.Path.{◌≡◌, refl, sym, ◌∙◌, ap}
use mathlib.Core.Bool.{Bool, true, false, ◌&&◌}
use mathlib.Core.List.{List, [], ◌∷◌, ◌++◌, map, append_assoc, flat_map}
use mathlib.Core.Option.{Option, none, some, or_else}
use Prim.Native.Nat.{ℕ, ◌+◌, ◌<◌}
use native.Mathlib.Omega.{arith}
use lib.ListN.{length, length-append}
use Rattle.format.specs.Basics.{is_empty, every, All}
use Rattle.format.specs.Calls.{Reordered, none_left, same_first, swap, chained}

pub both : (a b : Bool) → (a && b) ≡ true → (a ≡ true) × (b ≡ true)
both true b e = (refl, e)
both false b e = let z : ◌≡◌ {A = ℕ} 0 1 = cc in absurd (omega arith)

pub by_test : {P : Type 0} (t : Bool) → (t ≡ true → P) → (t ≡ false → P) → P
by_test true yes_case no_case = yes_case refl
by_test false yes_case no_case = no_case refl

pub or-none : {A : Type 0} (o : Option A) → or_else o none ≡ o
unfolding or_else
or-none none = refl
or-none (some a) = refl

module _ {A : Type 0} where
  pub all_map : {P Q : A → Type 0} → ((a : A) → P a → Q a) → (xs : List A) → All P xs → All Q xs
  all_map f [] h = tt
  all_map f (x ∷ xs) h = (f x h.0, all_map f xs h.1)

  pub all_both : (P Q : A → Type 0) (xs : List A) → All P xs → All Q xs → All (λ a. P a × Q a) xs
  all_both P Q [] h k = tt
  all_both P Q (x ∷ xs) h k = ((h.0, k.0), all_both P Q xs h.1 k.1)

  pub all_append : (P : A → Type 0) (xs ys : List A) → All P xs → All P ys → All P (xs ++ ys)
  all_append P [] ys h k = k
  all_append P (x ∷ xs) ys h k = (h.0, all_append P xs ys h.1 k)

  pub all-parts : (P : A → Type 0) (xs ys : List A) → All P (xs ++ ys) → All P xs × All P ys
  all-parts P [] ys h = (tt, h)
  all-parts P (x ∷ xs) ys h = let r = all-parts P xs ys h.1 in ((h.0, r.0), r.1)

  -- a test that every element passes
  pub all-every : (p : A → Bool) (xs : List A) → every p xs ≡ true → All (λ a. p a ≡ true) xs
  unfolding every
  all-every p [] e = tt
  all-every p (x ∷ xs) e = let r = both (p x) (every p xs) e in (r.0, all-every p xs r.1)

  pub every-all : (p : A → Bool) (xs : List A) → All (λ a. p a ≡ true) xs → every p xs ≡ true
  unfolding every
  every-all p [] h = refl
  every-all p (x ∷ xs) h = rw (h.0, every-all p xs h.1)

  pub every_append : (p : A → Bool) (xs ys : List A) → every p (xs ++ ys) ≡ (every p xs && every p ys)
  unfolding every
  every_append p [] ys = refl
  every_append p (x ∷ xs) ys = rw (every_append p xs ys) (go (p x))
    where
      go : (t : Bool) → (t && (every p xs && every p ys)) ≡ (t && every p xs && every p ys)
      go true = refl
      go false = refl

-- of the images under a map
pub all_images : {A B : Type 0} (P : B → Type 0) (f : A → B) (xs : List A) → All (λ a. P (f a)) xs → All P (map f xs)
all_images P f [] h = tt
all_images P f (x ∷ xs) h = (h.0, all_images P f xs h.1)

pub all_sources : {A B : Type 0} (P : B → Type 0) (f : A → B) (xs : List A) → All P (map f xs) → All (λ a. P (f a)) xs
all_sources P f [] h = tt
all_sources P f (x ∷ xs) h = (h.0, all_sources P f xs h.1)

pub map-append : {A B : Type 0} (f : A → B) (xs ys : List A) → map f (xs ++ ys) ≡ map f xs ++ map f ys
map-append f [] ys = refl
map-append f (x ∷ xs) ys = ap (λ (r : List _). f x ∷ r) (map-append f xs ys)

pub flat_map-append : {A B : Type 0} (f : A → List B) (xs ys : List A) → flat_map f (xs ++ ys) ≡ flat_map f xs ++ flat_map f ys
unfolding flat_map
flat_map-append f [] ys = refl
flat_map-append f (x ∷ xs) ys = ap (λ (r : List _). f x ++ r) (flat_map-append f xs ys) ∙ sym (append_assoc (f x) (flat_map f xs) (flat_map f ys))

pub flat_map-map : {A B C : Type 0} (f : B → List C) (g : A → B) (xs : List A) → flat_map f (map g xs) ≡ flat_map (λ a. f (g a)) xs
unfolding flat_map
flat_map-map f g [] = refl
flat_map-map f g (x ∷ xs) = ap (λ (r : List _). f (g x) ++ r) (flat_map-map f g xs)

pub flat_map-length : {A B : Type 0} (f : A → List B) (xs ys : List A) → length (flat_map f (xs ++ ys)) ≡ length (flat_map f xs) + length (flat_map f ys)
flat_map-length f xs ys = ap length (flat_map-append f xs ys) ∙ length-append (flat_map f xs) (flat_map f ys)

-- a part of what is joined is no longer than the whole
pub part-fits : {A B : Type 0} (f : A → List B) (n : ℕ) (xs : List A) → length (flat_map f xs) < n → All (λ a. length (f a) < n) xs
unfolding flat_map
part-fits f n [] h = tt
part-fits f n (x ∷ xs) h = let e = length-append (f x) (flat_map f xs) in (omega arith, part-fits f n xs (omega arith))

-- the same elements in another order
pub unchanged : {A : Type 0} (xs : List A) → Reordered xs xs
unchanged [] = none_left
unchanged (x ∷ xs) = same_first (unchanged xs)

pub reordered_map : {A B : Type 0} (f : A → B) {xs ys : List A} → Reordered xs ys → Reordered (map f xs) (map f ys)
reordered_map f none_left = none_left
reordered_map f (same_first r) = same_first (reordered_map f r)
reordered_map f swap = swap
reordered_map f (chained r s) = chained (reordered_map f r) (reordered_map f s)

pub reordered_back : {A : Type 0} {xs ys : List A} → Reordered xs ys → Reordered ys xs
reordered_back none_left = none_left
reordered_back (same_first r) = same_first (reordered_back r)
reordered_back swap = swap
reordered_back (chained r s) = chained (reordered_back s) (reordered_back r)

module _ {A : Type 0} where
  pub all_reordered : (P : A → Type 0) {xs ys : List A} → Reordered xs ys → All P xs → All P ys
  all_reordered P none_left h = tt
  all_reordered P (same_first r) h = (h.0, all_reordered P r h.1)
  all_reordered P swap h = (h.1.0, (h.0, h.1.1))
  all_reordered P (chained r s) h = all_reordered P s (all_reordered P r h)

  pub empty_reordered : {xs ys : List A} → Reordered xs ys → is_empty xs ≡ is_empty ys
  unfolding is_empty
  empty_reordered none_left = refl
  empty_reordered (same_first r) = refl
  empty_reordered swap = refl
  empty_reordered (chained r s) = empty_reordered r ∙ empty_reordered s

  pub empty_is : (xs : List A) → is_empty xs ≡ true → xs ≡ []
  unfolding is_empty
  empty_is [] e = refl
  empty_is (x ∷ xs) e = let z : ◌≡◌ {A = ℕ} 0 1 = cc in absurd (omega arith)

  pub flat_map_reordered : {B : Type 0} (f : A → List B) {xs ys : List A} → Reordered xs ys → length (flat_map f xs) ≡ length (flat_map f ys)
  unfolding flat_map
  flat_map_reordered f none_left = refl
  flat_map_reordered f (same_first {a = a} {xs = xs} {ys = ys} r) =
      let ih = flat_map_reordered f r in
      omega (arith, length-append (f a) (flat_map f xs), length-append (f a) (flat_map f ys))
  flat_map_reordered f (swap {a = a} {b = b} {xs = xs}) =
      omega
      (arith, length-append (f a) (f b ++ flat_map f xs), length-append (f b) (flat_map f xs), length-append (f b) (f a ++ flat_map f xs), length-append (f a) (flat_map f xs))
  flat_map_reordered f (chained r s) = flat_map_reordered f r ∙ flat_map_reordered f s
