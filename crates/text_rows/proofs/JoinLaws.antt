-- Labels of two tables: what is found under a name, and that a label's fields are those of the last rows that set them. Assumes nothing.
use mathlib.Core.Path.{◌≡◌, refl, sym, ap, ◌∙◌, subst}
use mathlib.Core.Bool.{false}
use mathlib.Core.List.{List, [], ◌∷◌, map}
use mathlib.Core.Option.{Option, none, some}
use Prim.Native.Nat.{ℕ, Ordering}
use lib.Dec.{compare_is_eq}
use Rattle.std.specs.Prelude.{if◌then◌else◌}
use Rattle.format.specs.Sorted.{order, by_ordering, upsert, at_key}
use Rattle.format.specs.ObjectFile.{Label, label_key}
use Rattle.format.specs.Records.{label_named}
use Rattle.format.proofs.SortedLaws.{order_eq, order_flip, Above, Rises, above_trans, rises-upsert, at_key-upsert, at_key_above, ext_at_key}
use Rattle.text_rows.specs.Rows.{only_symbol, only_start, both_fields, join_one, join_labels}

-- the label of a name, from what each table has under it
abbrev start_or : Option Label → ℕ
start_or none = 0
start_or (some d) = d.start

abbrev join_at : List ℕ → Option Label → Option Label → Option Label
join_at k none none = none
join_at k none (some d) = some (record { name = k; address = 0; external = false; start = d.start })
join_at k (some s) od = some (record { name = k; address = s.address; external = s.external; start = start_or od })

-- labels that are those of two tables
pub record Joined (ss ds ls : List Label) : Type 0 where
  pub rise : Rises label_key ls
  pub find : (k : List ℕ) → at_key label_key k ls ≡ join_at k (at_key label_key k ss) (at_key label_key k ds)

pub joined-none : Joined [] [] []
unfolding at_key
joined-none = record { rise = tt; find = λ k. refl }

-- a row of .SYMBOL, and one of the label table, put to an object's labels
abbrev pub with_symbol : Label → List Label → Label
with_symbol s ls = record { name = s.name; address = s.address; external = s.external; start = (label_named s.name ls).start }

abbrev pub with_start : Label → List Label → Label
with_start d ls =
    record { name = d.name; address = (label_named d.name ls).address; external = (label_named d.name ls).external; start = d.start }

module _ (ss ds ls : List Label) (j : Joined ss ds ls) where
  pub join_symbol : (s : Label) → Joined (upsert label_key s ss) ds (upsert label_key (with_symbol s ls) ls)
  unfolding label_named
  join_symbol s =
      record {
        rise = rises-upsert label_key (with_symbol s ls) ls j.rise;
        find = λ k. at_key-upsert label_key k (with_symbol s ls) ls ∙ go k (order k s.name) refl
            ∙ sym (ap (λ (o : Option Label). join_at k o (at_key label_key k ds)) (at_key-upsert label_key k s ss));
      }
    where
      same : (n : List ℕ) (os od : Option Label) → at_key label_key n ls ≡ join_at n os od
          → ◌≡◌ {A = Option Label} (some (record { name = n; address = s.address; external = s.external; start = (label_named n ls).start }))
          (join_at n (some s) od)
      same n none none e = rw e refl
      same n none (some d) e = rw e refl
      same n (some x) none e = rw e refl
      same n (some x) (some d) e = rw e refl

      go : (k : List ℕ) (o : Ordering) → order k s.name ≡ o
          → (if compare_is_eq o then some (with_symbol s ls) else at_key label_key k ls)
          ≡ join_at k (if compare_is_eq o then some s else at_key label_key k ss) (at_key label_key k ds)
      go k Ordering.lt e = j.find k
      go k Ordering.gt e = j.find k
      go k Ordering.eq e =
          let q : k ≡ s.name = order_eq k s.name e in
          ap (λ (n : List ℕ). some (record { name = n; address = s.address; external = s.external; start = (label_named n ls).start })) (sym q)
          ∙ same k (at_key label_key k ss) (at_key label_key k ds) (j.find k)

  pub join_start : (d : Label) → Joined ss (upsert label_key d ds) (upsert label_key (with_start d ls) ls)
  unfolding label_named
  join_start d =
      record {
        rise = rises-upsert label_key (with_start d ls) ls j.rise;
        find = λ k. at_key-upsert label_key k (with_start d ls) ls ∙ go k (order k d.name) refl
            ∙ sym (ap (λ (o : Option Label). join_at k (at_key label_key k ss) o) (at_key-upsert label_key k d ds));
      }
    where
      same : (n : List ℕ) (os od : Option Label) → at_key label_key n ls ≡ join_at n os od
          → ◌≡◌ {A = Option Label} (some (record { name = n; address = (label_named n ls).address; external = (label_named n ls).external; start = d.start }))
          (join_at n os (some d))
      same n none none e = rw e refl
      same n none (some x) e = rw e refl
      same n (some x) none e = rw e refl
      same n (some x) (some y) e = rw e refl

      go : (k : List ℕ) (o : Ordering) → order k d.name ≡ o
          → (if compare_is_eq o then some (with_start d ls) else at_key label_key k ls)
          ≡ join_at k (at_key label_key k ss) (if compare_is_eq o then some d else at_key label_key k ds)
      go k Ordering.lt e = j.find k
      go k Ordering.gt e = j.find k
      go k Ordering.eq e =
          let q : k ≡ d.name = order_eq k d.name e in
          ap (λ (n : List ℕ). some (record { name = n; address = (label_named n ls).address; external = (label_named n ls).external; start = d.start })) (sym q)
          ∙ same k (at_key label_key k ss) (at_key label_key k ds) (j.find k)

-- THE JOIN of two rising lists
module _ (k : List ℕ) where
  above_start : (ds : List Label) → Above label_key k ds → Above label_key k (map only_start ds)
  above_start [] h = tt
  above_start (d ∷ ds) h = (h.0, above_start ds h.1)

  above_one : (s : Label) (more : List Label → List Label) (ds : List Label) → order k s.name ≡ Ordering.lt → Above label_key k ds
      → ((es : List Label) → Above label_key k es → Above label_key k (more es)) → Above label_key k (join_one s more ds)
  unfolding join_one
  above_one s more [] e h m = (e, m [] tt)
  above_one s more (d ∷ ds) e h m = go (order s.name d.name) (above_one s more ds e h.1 m)
    where
      go : (o : Ordering) → Above label_key k (join_one s more ds)
          → Above label_key k (by_ordering o (only_symbol s ∷ more (d ∷ ds)) (both_fields s d ∷ more ds) (only_start d ∷ join_one s more ds))
      go Ordering.lt ih = (e, m (d ∷ ds) h)
      go Ordering.eq ih = (e, m ds h.1)
      go Ordering.gt ih = (h.0, ih)

  above_join : (ss ds : List Label) → Above label_key k ss → Above label_key k ds → Above label_key k (join_labels ss ds)
  unfolding join_labels
  above_join [] ds h g = above_start ds g
  above_join (s ∷ ss) ds h g = above_one s (join_labels ss) ds h.0 g (λ es. above_join ss es h.1)

rise_start : (ds : List Label) → Rises label_key ds → Rises label_key (map only_start ds)
rise_start [] h = tt
rise_start (d ∷ ds) h = (above_start d.name ds h.0, rise_start ds h.1)

rise_one : (s : Label) (ss ds : List Label) → Rises label_key (s ∷ ss) → Rises label_key ds
    → ((es : List Label) → Rises label_key es → Rises label_key (join_labels ss es)) → Rises label_key (join_one s (join_labels ss) ds)
unfolding join_one
rise_one s ss [] r q m = (above_join s.name ss [] r.0 tt, m [] tt)
rise_one s ss (d ∷ ds) r q m = go (order s.name d.name) refl (rise_one s ss ds r q.1 m)
  where
    go : (o : Ordering) → order s.name d.name ≡ o → Rises label_key (join_one s (join_labels ss) ds)
        → Rises label_key (by_ordering o (only_symbol s ∷ join_labels ss (d ∷ ds)) (both_fields s d ∷ join_labels ss ds) (only_start d ∷ join_one s (join_labels ss) ds))
    go Ordering.lt e ih = (above_join s.name ss (d ∷ ds) r.0 (e, above_trans label_key s.name d.name ds e q.0), m (d ∷ ds) q)
    go Ordering.eq e ih =
        let p : d.name ≡ s.name = sym (order_eq s.name d.name e) in
        (above_join s.name ss ds r.0 (subst (λ (k : List ℕ). Above label_key k ds) p q.0), m ds q.1)
    go Ordering.gt e ih =
        let f = order_flip s.name d.name e in
        (above_one d.name s (join_labels ss) ds f q.0 (λ es. above_join d.name ss es (above_trans label_key d.name s.name ss f r.0)), ih)

rise_join : (ss ds : List Label) → Rises label_key ss → Rises label_key ds → Rises label_key (join_labels ss ds)
unfolding join_labels
rise_join [] ds r q = rise_start ds q
rise_join (s ∷ ss) ds r q = rise_one s ss ds r q (λ es. rise_join ss es r.1)

-- what is found
find_start : (k : List ℕ) (ds : List Label) → at_key label_key k (map only_start ds) ≡ join_at k none (at_key label_key k ds)
unfolding at_key
find_start k [] = refl
find_start k (d ∷ ds) = go (order k d.name) refl (find_start k ds)
  where
    go : (o : Ordering) → order k d.name ≡ o → at_key label_key k (map only_start ds) ≡ join_at k none (at_key label_key k ds)
        → (if compare_is_eq o then some (only_start d) else at_key label_key k (map only_start ds)) ≡ join_at k none (if compare_is_eq o then some d else at_key label_key k ds)
    go Ordering.lt e ih = ih
    go Ordering.gt e ih = ih
    go Ordering.eq e ih = ap (λ (n : List ℕ). some (record { name = n; address = 0; external = false; start = d.start })) (sym (order_eq k d.name e))

no_key : (k : List ℕ) (x : Label) (xs : List Label) → order k x.name ≡ Ordering.lt → Above label_key x.name xs → at_key label_key k (x ∷ xs) ≡ none
no_key k x xs e h = at_key_above label_key k (x ∷ xs) (e, above_trans label_key k x.name xs e h)

module _ (k : List ℕ) (s : Label) (ss : List Label) (rs : Above label_key s.name ss) where
  abbrev Finds : List Label → Type 0
  Finds ds = at_key label_key k (join_labels ss ds) ≡ join_at k (at_key label_key k ss) (at_key label_key k ds)

  symbol-first : (ds : List Label) → Above label_key s.name ds → Finds ds
      → at_key label_key k (only_symbol s ∷ join_labels ss ds) ≡ join_at k (at_key label_key k (s ∷ ss)) (at_key label_key k ds)
  unfolding at_key
  symbol-first ds a ih = go (order k s.name) refl
    where
      go : (o : Ordering) → order k s.name ≡ o
          → (if compare_is_eq o then some (only_symbol s) else at_key label_key k (join_labels ss ds)) ≡ join_at k (if compare_is_eq o then some s else at_key label_key k ss) (at_key label_key k ds)
      go Ordering.lt e = ih
      go Ordering.gt e = ih
      go Ordering.eq e =
          let q : k ≡ s.name = order_eq k s.name e in
          let n : at_key label_key k ds ≡ none = at_key_above label_key k ds (subst (λ (j : List ℕ). Above label_key j ds) (sym q) a) in
          ap (λ (n : List ℕ). some (record { name = n; address = s.address; external = s.external; start = 0 })) (sym q)
          ∙ sym (ap (λ (o : Option Label). join_at k (some s) o) n)

  both_first : (d : Label) (ds : List Label) → s.name ≡ d.name → Finds ds
      → at_key label_key k (both_fields s d ∷ join_labels ss ds) ≡ join_at k (at_key label_key k (s ∷ ss)) (at_key label_key k (d ∷ ds))
  unfolding at_key
  both_first d ds p ih =
      go (order k s.name) refl
      ∙ ap (λ (n : List ℕ). join_at k (at_key label_key k (s ∷ ss)) (if compare_is_eq (order k n) then some d else at_key label_key k ds)) p
    where
      go : (o : Ordering) → order k s.name ≡ o
          → (if compare_is_eq o then some (both_fields s d) else at_key label_key k (join_labels ss ds)) ≡ join_at k (if compare_is_eq o then some s else at_key label_key k ss) (if compare_is_eq o then some d else at_key label_key k ds)
      go Ordering.lt e = ih
      go Ordering.gt e = ih
      go Ordering.eq e = ap (λ (n : List ℕ). some (record { name = n; address = s.address; external = s.external; start = d.start })) (sym (order_eq k s.name e))

  start_first : (d : Label) (ds js : List Label) → order d.name s.name ≡ Ordering.lt
      → at_key label_key k js ≡ join_at k (at_key label_key k (s ∷ ss)) (at_key label_key k ds)
      → at_key label_key k (only_start d ∷ js) ≡ join_at k (at_key label_key k (s ∷ ss)) (at_key label_key k (d ∷ ds))
  unfolding at_key
  start_first d ds js f ih = go (order k d.name) refl
    where
      go : (o : Ordering) → order k d.name ≡ o
          → (if compare_is_eq o then some (only_start d) else at_key label_key k js) ≡ join_at k (at_key label_key k (s ∷ ss)) (if compare_is_eq o then some d else at_key label_key k ds)
      go Ordering.lt e = ih
      go Ordering.gt e = ih
      go Ordering.eq e =
          let q : k ≡ d.name = order_eq k d.name e in
          let n : at_key label_key k (s ∷ ss) ≡ none = no_key k s ss (subst (λ (j : List ℕ). order j s.name ≡ Ordering.lt) (sym q) f) rs in
          ap (λ (n : List ℕ). some (record { name = n; address = 0; external = false; start = d.start })) (sym q)
          ∙ sym (ap (λ (o : Option Label). join_at k o (some d)) n)

  find_one : (ds : List Label) → Rises label_key ds → ((es : List Label) → Rises label_key es → Finds es)
      → at_key label_key k (join_one s (join_labels ss) ds) ≡ join_at k (at_key label_key k (s ∷ ss)) (at_key label_key k ds)
  unfolding join_one
  find_one [] q m = symbol-first [] tt (m [] tt)
  find_one (d ∷ ds) q m = go (order s.name d.name) refl (find_one ds q.1 m)
    where
      go : (o : Ordering) → order s.name d.name ≡ o
          → at_key label_key k (join_one s (join_labels ss) ds) ≡ join_at k (at_key label_key k (s ∷ ss)) (at_key label_key k ds)
          → at_key label_key k (by_ordering o (only_symbol s ∷ join_labels ss (d ∷ ds)) (both_fields s d ∷ join_labels ss ds) (only_start d ∷ join_one s (join_labels ss) ds))
          ≡ join_at k (at_key label_key k (s ∷ ss)) (at_key label_key k (d ∷ ds))
      go Ordering.lt e ih = symbol-first (d ∷ ds) (e, above_trans label_key s.name d.name ds e q.0) (m (d ∷ ds) q)
      go Ordering.eq e ih = both_first d ds (order_eq s.name d.name e) (m ds q.1)
      go Ordering.gt e ih = start_first d ds (join_one s (join_labels ss) ds) (order_flip s.name d.name e) ih

find_join : (k : List ℕ) (ss ds : List Label) → Rises label_key ss → Rises label_key ds
    → at_key label_key k (join_labels ss ds) ≡ join_at k (at_key label_key k ss) (at_key label_key k ds)
unfolding join_labels at_key
find_join k [] ds r q = find_start k ds
find_join k (s ∷ ss) ds r q = find_one k s ss r.0 ds q (λ es. find_join k ss es r.1)

-- labels that are those of two rising tables are their join
pub joined_is : (ss ds ls : List Label) → Rises label_key ss → Rises label_key ds → Joined ss ds ls → ls ≡ join_labels ss ds
joined_is ss ds ls r q j =
    ext_at_key label_key ls (join_labels ss ds) j.rise (rise_join ss ds r q) (λ k. j.find k ∙ sym (find_join k ss ds r q))
