-- What is gathered from records in any order. Assumes nothing.
use mathlib.Core.Path.{◌≡◌, refl, sym, ◌∙◌, ap, subst}
use mathlib.Core.List.{List, [], ◌∷◌, ◌++◌, map}
use mathlib.Core.Option.{Option, none, some, or_else}
use Prim.Native.Nat.{ℕ, Ordering}
use native.Mathlib.Omega.{arith}
use lib.Dec.{compare_is_eq}
use Rattle.std.specs.Prelude.{if◌then◌else◌}
use Rattle.format.specs.Sorted.{order, upsert, at_key, upsert_all, sorted}
use Rattle.format.proofs.SortedLaws.{order_self, order_eq, at_key-upsert, Rises, rises-upsert, at_key_above, ext_at_key}
use Rattle.format.specs.ObjectFile.{Label, ObjectFile, label_key}
use Rattle.format.specs.Records.{Record, label, put_record, gather_records, with_labels}
use Rattle.format.specs.Calls.{Reordered, none_left, same_first, swap, chained}
use Rattle.format.proofs.ListLaws.{or-none}

module _ {A : Type 0} (key : A → List ℕ) where
  -- no key twice
  abbrev pub Distinct : List A → Type 0
  Distinct [] = Unit {0}
  Distinct (a ∷ xs) = (at_key key (key a) xs ≡ none) × Distinct xs

  pub rises_distinct : (xs : List A) → Rises key xs → Distinct xs
  rises_distinct [] h = tt
  rises_distinct (a ∷ xs) h = (at_key_above key (key a) xs h.0, rises_distinct xs h.1)

  pub rises-upsert_all : (xs acc : List A) → Rises key acc → Rises key (upsert_all key xs acc)
  unfolding upsert_all
  rises-upsert_all [] acc h = h
  rises-upsert_all (a ∷ xs) acc h = rises-upsert_all xs (upsert key a acc) (rises-upsert key a acc h)

  pub at_key-upsert_all : (k : List ℕ) (xs acc : List A) → Distinct xs → at_key key k (upsert_all key xs acc) ≡ or_else (at_key key k xs) (at_key key k acc)
  unfolding upsert_all at_key or_else
  at_key-upsert_all k [] acc d = refl
  at_key-upsert_all k (a ∷ xs) acc d = at_key-upsert_all k xs (upsert key a acc) d.1 ∙ rw (at_key-upsert key k a acc) (pick (order k (key a)) refl)
    where
      pick : (o : Ordering) → order k (key a) ≡ o
          → or_else (at_key key k xs) (if compare_is_eq o then some a else at_key key k acc) ≡ or_else (if compare_is_eq o then some a else at_key key k xs) (at_key key k acc)
      pick Ordering.lt e = refl
      pick Ordering.gt e = refl
      pick Ordering.eq e = let p : k ≡ key a = order_eq k (key a) e in rw (ap (λ (j : List ℕ). at_key key j xs) p ∙ d.0)

  -- the order in which they stand does not matter, where no key comes twice
  pub reordered_at_key : {xs ys : List A} → Reordered xs ys → Distinct xs → ((k : List ℕ) → at_key key k xs ≡ at_key key k ys) × Distinct ys
  unfolding at_key
  reordered_at_key none_left d = (λ k. refl, tt)
  reordered_at_key (same_first {a = a} {xs = xs} {ys = ys} r) d =
      let ih = reordered_at_key r d.1 in
      (λ k. rw (ih.0 k), (sym (ih.0 (key a)) ∙ d.0, ih.1))
  reordered_at_key (swap {a = a} {b = b} {xs = xs}) d = (λ k. pick k (order k (key a)) refl (order k (key b)) refl, (first (order (key b) (key a)) refl, (second (order (key a) (key b)) refl d.0, d.1.1)))
    where
      clash : (k : List ℕ) → order k (key a) ≡ Ordering.eq → order k (key b) ≡ Ordering.eq → (if compare_is_eq (order (key a) (key b)) then some b else at_key key (key a) xs) ≡ none → ⊥
      clash k p q n =
          let u : key b ≡ key a = sym (order_eq k (key b) q) ∙ order_eq k (key a) p in
          let w : order (key a) (key b) ≡ Ordering.eq = subst (λ (x : List ℕ). order x (key b) ≡ Ordering.eq) u (order_self (key b)) in
          let m : ◌≡◌ {A = Option A} (some b) none = rw w at n in
          let z : ◌≡◌ {A = ℕ} 0 1 = cc in omega arith

      pick : (k : List ℕ) (s : Ordering) → order k (key a) ≡ s → (t : Ordering) → order k (key b) ≡ t
          → ◌≡◌ {A = Option A} (if compare_is_eq s then some a else if compare_is_eq t then some b else at_key key k xs) (if compare_is_eq t then some b else if compare_is_eq s then some a else at_key key k xs)
      pick k Ordering.lt p t q = refl
      pick k Ordering.gt p t q = refl
      pick k Ordering.eq p Ordering.lt q = refl
      pick k Ordering.eq p Ordering.gt q = refl
      pick k Ordering.eq p Ordering.eq q = absurd (clash k p q d.0)

      second : (o : Ordering) → order (key a) (key b) ≡ o → (if compare_is_eq o then some b else at_key key (key a) xs) ≡ none → at_key key (key a) xs ≡ none
      second Ordering.lt e n = n
      second Ordering.gt e n = n
      second Ordering.eq e n = let z : ◌≡◌ {A = ℕ} 0 1 = cc in absurd (omega arith)

      first : (o : Ordering) → order (key b) (key a) ≡ o → (if compare_is_eq o then some a else at_key key (key b) xs) ≡ none
      first Ordering.lt e = d.1.0
      first Ordering.gt e = d.1.0
      first Ordering.eq e = absurd (clash (key b) e (order_self (key b)) d.0)
  reordered_at_key (chained r s) d =
      let u = reordered_at_key r d in
      let v = reordered_at_key s u.1 in
      (λ k. u.0 k ∙ v.0 k, v.1)

  -- from a reordering of a rising list, the rising list
  pub sorted_back : (xs ys : List A) → Rises key xs → Reordered xs ys → sorted key ys ≡ xs
  unfolding at_key
  sorted_back xs ys h r =
      let u = reordered_at_key r (rises_distinct xs h) in
      ext_at_key key (sorted key ys) xs (rises-upsert_all ys [] tt) h (λ k. at_key-upsert_all k ys [] u.1 ∙ or-none (at_key key k ys) ∙ sym (u.0 k))

pub gather_append : (h : ObjectFile) (rs ts : List Record) → gather_records h (rs ++ ts) ≡ gather_records (gather_records h rs) ts
unfolding gather_records
gather_append h [] ts = refl
gather_append h (r ∷ rs) ts = gather_append (put_record h r) rs ts

pub gather_labels : (h : ObjectFile) (ls : List Label) → gather_records h (map label ls) ≡ with_labels h (upsert_all label_key ls h.labels)
unfolding gather_records put_record upsert_all
gather_labels h [] = refl
gather_labels h (l ∷ ls) = gather_labels (with_labels h (upsert label_key l h.labels)) ls
