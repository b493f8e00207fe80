-- Laws of the small functions on lists. Assumes nothing.
use mathlib.Core.Path.{◌≡◌, refl, ◌∙◌, ap}
use mathlib.Core.Bool.{Bool, true, false, ◌&&◌}
use mathlib.Core.List.{List, [], ◌∷◌, ◌++◌, map, flat_map}
use mathlib.Core.Option.{Option, some}
use Prim.Native.Nat.{ℕ}
use borrow.Author.Tests.{eq-eqb}
use Rattle.std.specs.Prelude.{if◌then◌else◌}
use Rattle.format.specs.Basics.{keep, all_some, eqs, All}
use Rattle.format.specs.Tokens.{parts_at}
use Rattle.format.proofs.ListLaws.{both, all_append, flat_map-append}

pub and_left : (a b : Bool) → a && b ≡ true → a ≡ true
and_left a b h = (both a b h).0

pub and_right : (a b : Bool) → a && b ≡ true → b ≡ true
and_right a b h = (both a b h).1

module _ {A : Type 0} where
  pub all_of : {P : A → Type 0} (f : (x : A) → P x) (xs : List A) → All P xs
  all_of f [] = tt
  all_of f (x ∷ xs) = (f x, all_of f xs)

  pub keep_append : (p : A → Bool) (xs ys : List A) → keep p (xs ++ ys) ≡ keep p xs ++ keep p ys
  unfolding keep
  keep_append p [] ys = refl
  keep_append p (x ∷ xs) ys = rw (keep_append p xs ys) (pick (p x))
    where
      pick : (t : Bool) → ◌≡◌ {A = List A} (if t then x ∷ (keep p xs ++ keep p ys) else keep p xs ++ keep p ys) ((if t then x ∷ keep p xs else keep p xs) ++ keep p ys)
      pick true = refl
      pick false = refl

  pub keep_all : (p : A → Bool) (xs : List A) → All (λ x. p x ≡ true) xs → keep p xs ≡ xs
  unfolding keep
  keep_all p [] h = refl
  keep_all p (x ∷ xs) h = rw (h.0, keep_all p xs h.1)

  -- rows up to a head stand before it
  pub parts_body :
      (is_head : A → Bool) (xs ys : List A) → All (λ x. is_head x ≡ false) xs
      → parts_at is_head (xs ++ ys) ≡ record { before = xs ++ (parts_at is_head ys).before; groups = (parts_at is_head ys).groups }
  unfolding parts_at
  parts_body is_head [] ys h = refl
  parts_body is_head (x ∷ xs) ys h = rw (h.0, parts_body is_head xs ys h.1)

  pub parts_all : (is_head : A → Bool) (xs : List A) → All (λ x. is_head x ≡ false) xs → parts_at is_head xs ≡ record { before = xs; groups = [] }
  unfolding parts_at
  parts_all is_head [] h = refl
  parts_all is_head (x ∷ xs) h = rw (h.0, parts_all is_head xs h.1)

  pub parts-head :
      (is_head : A → Bool) (x : A) (xs : List A) → is_head x ≡ true
      → parts_at is_head (x ∷ xs) ≡ record { before = []; groups = (x, (parts_at is_head xs).before) ∷ (parts_at is_head xs).groups }
  unfolding parts_at
  parts-head is_head x xs h = rw h

module _ {A B : Type 0} where
  pub all-flat_map : (P : B → Type 0) (f : A → List B) (xs : List A) → All (λ x. All P (f x)) xs → All P (flat_map f xs)
  unfolding flat_map
  all-flat_map P f [] h = tt
  all-flat_map P f (x ∷ xs) h = all_append P (f x) (flat_map f xs) h.0 (all-flat_map P f xs h.1)

  pub flat_map_ext : (f g : A → List B) → ((x : A) → f x ≡ g x) → (xs : List A) → flat_map f xs ≡ flat_map g xs
  unfolding flat_map
  flat_map_ext f g h [] = refl
  flat_map_ext f g h (x ∷ xs) = rw (h x, flat_map_ext f g h xs)

  pub flat_map_cong : (f g : A → List B) (xs : List A) → All (λ x. f x ≡ g x) xs → flat_map f xs ≡ flat_map g xs
  unfolding flat_map
  flat_map_cong f g [] h = refl
  flat_map_cong f g (x ∷ xs) h = rw (h.0, flat_map_cong f g xs h.1)

  pub all_some_lem : (f : A → Option B) (g : B → A) (ys : List B) → All (λ y. f (g y) ≡ some y) ys → all_some f (map g ys) ≡ some ys
  unfolding all_some
  all_some_lem f g [] h = refl
  all_some_lem f g (y ∷ ys) h = rw (h.0, all_some_lem f g ys h.1)

  pub map_cong : (f g : A → B) (xs : List A) → All (λ x. f x ≡ g x) xs → map f xs ≡ map g xs
  map_cong f g [] h = refl
  map_cong f g (x ∷ xs) h = rw (h.0, map_cong f g xs h.1)

module _ {A B C : Type 0} where
  pub flat_map-flat_map : (f : B → List C) (g : A → List B) (xs : List A) → flat_map f (flat_map g xs) ≡ flat_map (λ x. flat_map f (g x)) xs
  unfolding flat_map
  flat_map-flat_map f g [] = refl
  flat_map-flat_map f g (x ∷ xs) = flat_map-append f (g x) (flat_map g xs) ∙ ap (λ (r : List C). flat_map f (g x) ++ r) (flat_map-flat_map f g xs)

pub eqs_self : (xs : List ℕ) → eqs xs xs ≡ true
unfolding eqs
eqs_self [] = refl
eqs_self (x ∷ xs) = rw (eq-eqb x x refl, eqs_self xs)
