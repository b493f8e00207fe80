-- Sorting is reordering where no key comes twice, and what a list finds of its own. Assumes nothing.
use mathlib.Core.Path.{◌≡◌, refl, sym, ◌∙◌, ap, subst}
use mathlib.Core.Bool.{false}
use mathlib.Core.List.{List, [], ◌∷◌}
use mathlib.Core.Option.{Option, none, some}
use Prim.Native.Nat.{ℕ, compare, Ordering}
use native.Mathlib.Omega.{arith}
use lib.Dec.{compare_is_eq}
use Rattle.std.specs.Prelude.{if◌then◌else◌}
use Rattle.format.specs.Basics.{All}
use Rattle.format.specs.Sorted.{order, then_by, upsert, at_key}
use Rattle.format.proofs.SortedLaws.{order_self, order_eq, at_key-upsert, at_key-first, Above}
use Rattle.format.proofs.GatherLaws.{Distinct}

module _ {A : Type 0} (key : A → List ℕ) where
  -- a list finds each of its own, where no key comes twice
  own :
      (a : A) (xs ys : List A) → at_key key (key a) ys ≡ none → All (λ x. at_key key (key x) ys ≡ some x) xs → All (λ x. at_key key (key x) (a ∷ ys) ≡ some x) xs
  unfolding at_key
  own a [] ys n h = tt
  own a (x ∷ xs) ys n h = (go (order (key x) (key a)) refl, own a xs ys n h.1)
    where
      go : (o : Ordering) → order (key x) (key a) ≡ o → (if compare_is_eq o then some a else at_key key (key x) ys) ≡ some x
      go Ordering.lt e = h.0
      go Ordering.gt e = h.0
      go Ordering.eq e =
          let q : key x ≡ key a = order_eq (key x) (key a) e in
          let z : ◌≡◌ {A = Option A} (some x) none = sym h.0 ∙ ap (λ (k : List ℕ). at_key key k ys) q ∙ n in
          let w : ◌≡◌ {A = ℕ} 0 1 = cc in absurd (omega arith)

  pub distinct_at_key : (xs : List A) → Distinct key xs → All (λ x. at_key key (key x) xs ≡ some x) xs
  distinct_at_key [] h = tt
  distinct_at_key (a ∷ xs) h = (at_key-first key a xs, own a xs xs h.0 (distinct_at_key xs h.1))

  -- also by a number in front of the key
  front : (f : A → ℕ) (a : A) (xs : List A) → at_key key (key a) xs ≡ none → at_key (λ x. f x ∷ key x) (f a ∷ key a) xs ≡ none
  unfolding at_key order
  front f a [] h = refl
  front f a (b ∷ bs) h = go (order (key a) (key b)) (compare (f a) (f b)) h (front f a bs)
    where
      go : (o p : Ordering) → (if compare_is_eq o then some b else at_key key (key a) bs) ≡ none → (at_key key (key a) bs ≡ none → at_key (λ x. f x ∷ key x) (f a ∷ key a) bs ≡ none)
          → (if compare_is_eq (then_by p o) then some b else at_key (λ x. f x ∷ key x) (f a ∷ key a) bs) ≡ none
      go Ordering.eq p n ih = let w : ◌≡◌ {A = ℕ} 0 1 = cc in absurd (omega arith)
      go Ordering.lt Ordering.lt n ih = ih n
      go Ordering.lt Ordering.eq n ih = ih n
      go Ordering.lt Ordering.gt n ih = ih n
      go Ordering.gt Ordering.lt n ih = ih n
      go Ordering.gt Ordering.eq n ih = ih n
      go Ordering.gt Ordering.gt n ih = ih n

  pub distinct_front : (f : A → ℕ) (xs : List A) → Distinct key xs → Distinct (λ x. f x ∷ key x) xs
  distinct_front f [] h = tt
  distinct_front f (a ∷ xs) h = (front f a xs h.0, distinct_front f xs h.1)

  -- a key below all that follow differs from theirs
  pub differs : (j k : List ℕ) → order j k ≡ Ordering.lt → compare_is_eq (order k j) ≡ false
  differs j k e = go (order k j) refl
    where
      go : (o : Ordering) → order k j ≡ o → compare_is_eq o ≡ false
      go Ordering.lt f = refl
      go Ordering.gt f = refl
      go Ordering.eq f =
          let q : k ≡ j = order_eq k j f in
          let x : order j j ≡ Ordering.lt = subst (λ (m : List ℕ). order j m ≡ Ordering.lt) q e in
          let y = order_self j in
          let w : ◌≡◌ {A = ℕ} 0 1 = cc in absurd (omega arith)

  -- after an insertion, keys above it are found as before
  pub absent_upsert : (a : A) (xs acc : List A) → Above key (key a) xs → All (λ x. at_key key (key x) acc ≡ none) xs → All (λ x. at_key key (key x) (upsert key a acc) ≡ none) xs
  absent_upsert a [] acc r h = tt
  absent_upsert a (x ∷ xs) acc r h =
      (at_key-upsert key (key x) a acc ∙ rw (differs (key a) (key x) r.0, h.0), absent_upsert a xs acc r.1 h.1)
