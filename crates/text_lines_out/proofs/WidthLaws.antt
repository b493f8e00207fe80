-- The width of the column of line numbers: that of the largest number that is set in. Assumes nothing.
use mathlib.Core.Path.{◌≡◌, refl, ap, ◌∙◌}
use mathlib.Core.List.{List, [], ◌∷◌}
use mathlib.Core.Option.{some}
use Prim.Native.Nat.{ℕ, zero, suc, ◌+◌, ◌-◌, ◌/◌, ◌%◌, ◌^◌, ◌≤◌, ◌<◌, max, compare, Ordering}
use native.Mathlib.Omega.{arith}
use lib.ListN.{length}
use lib.Dec.{ltb}
use borrow.Author.Tests.{le-ltb, ltb-false}
use Rattle.format.specs.Sorted.{order, by_ordering, then_by, upsert}
use Rattle.format.specs.TextWriter.{lower_digit, numeral, decimal, widest, Row, row_key, add_rows}
use Rattle.format.proofs.SortedLaws.{eq_of_compare}
use Rattle.format.proofs.ListLaws.{by_test}

-- A LARGER NUMBER has as many digits, or more
one_more : (k n : ℕ) (ds : List ℕ) → suc (length ds) ≤ length (numeral k 10 n ds)
unfolding numeral
one_more zero n ds = omega arith
one_more (suc k) n ds =
    by_test (ltb n 10) (λ t. rw t (omega arith)) (λ t. rw t (omega (arith, one_more k (n / 10) (lower_digit (n % 10) ∷ ds))))

digits_rise : (k n m : ℕ) (ds es : List ℕ) → n ≤ m → length ds ≡ length es → length (numeral k 10 n ds) ≤ length (numeral k 10 m es)
unfolding numeral
digits_rise zero n m ds es h e = omega arith
digits_rise (suc k) n m ds es h e =
    by_test (ltb n 10)
    (λ t. rw t (omega (arith, one_more (suc k) m es)))
    (λ t. let l = ltb-false n 10 t in
    let u : ltb m 10 ≡ _ = le-ltb m 10 (omega arith) in
    rw (t, u) (digits_rise k (n / 10) (m / 10) (lower_digit (n % 10) ∷ ds) (lower_digit (m % 10) ∷ es) (omega arith) (omega arith)))

pub decimal-rises : (n m : ℕ) → n ≤ m → length (decimal n) ≤ length (decimal m)
unfolding decimal
decimal-rises n m h = digits_rise 19 n m [] [] h refl

-- A ROW SET IN, by a measure of its number
module _ (g : ℕ → ℕ) (least : ℕ) where
  abbrev pub wide : List Row → ℕ
  wide rows = widest (λ (r : Row). g r.number) least rows

  swap-max : (a b c : ℕ) → max b (max a c) ≡ max a (max b c)
  swap-max a b c = omega arith

  same-max : (a b c : ℕ) → a ≡ b → max a c ≡ max a (max b c)
  same-max a b c e = omega arith

  pub wide-put : (r : Row) (rows : List Row) → wide (upsert row_key r rows) ≡ max (g r.number) (wide rows)
  unfolding widest upsert order
  wide-put r [] = refl
  wide-put r (b ∷ bs) = go (compare r.number b.number) refl (wide-put r bs)
    where
      go : (o : Ordering) → compare r.number b.number ≡ o → wide (upsert row_key r bs) ≡ max (g r.number) (wide bs)
          → wide (by_ordering (then_by o Ordering.eq) (r ∷ b ∷ bs) (r ∷ bs) (b ∷ upsert row_key r bs))
          ≡ max (g r.number) (max (g b.number) (wide bs))
      go Ordering.lt c ih = unfold widest in refl
      go Ordering.eq c ih =
          unfold widest in same-max (g r.number) (g b.number) (wide bs) (ap g (eq_of_compare r.number b.number c))
      go Ordering.gt c ih =
          unfold widest in ap (max (g b.number)) ih ∙ swap-max (g r.number) (g b.number) (wide bs)

-- THE ROWS OF A BLOCK, by a measure that rises: its last line decides, or the largest 64-bit value where lines wrap
module _ (g : ℕ → ℕ) (least : ℕ) (rise : (n m : ℕ) → n ≤ m → g n ≤ g m) where
  absorb : (t b w : ℕ) → b ≤ t → max t (max b w) ≡ max t w
  absorb t b w h = omega arith

  below : (b w : ℕ) → b ≤ w → max b w ≡ w
  below b w h = omega arith

  pub wide-block :
      (i a : ℕ) (xs : List ℕ) (rows : List Row) → i + length xs < 2 ^ 64
      → wide g least (add_rows i (a ∷ xs) rows) ≡ max (g (i + length xs)) (wide g least rows)
  unfolding add_rows
  wide-block i a [] rows h =
      let m : i % 2 ^ 64 ≡ i = omega arith in
      let e : i ≡ i + 0 = omega arith in
      ap (λ (n : ℕ). wide g least (upsert row_key (record { number = n; address = some a }) rows)) m
      ∙ wide-put g least (record { number = i; address = some a }) rows ∙ ap (λ (n : ℕ). max (g n) (wide g least rows)) e
  wide-block i a (x ∷ xs) rows h =
      let m : i % 2 ^ 64 ≡ i = omega arith in
      let e : suc i + length xs ≡ i + suc (length xs) = omega arith in
      wide-block (suc i) x xs (upsert row_key (record { number = i % 2 ^ 64; address = some a }) rows) (omega arith)
      ∙ ap (max (g (suc i + length xs)))
      (ap (λ (n : ℕ). wide g least (upsert row_key (record { number = n; address = some a }) rows)) m
      ∙ wide-put g least (record { number = i; address = some a }) rows)
      ∙ absorb (g (suc i + length xs)) (g i) (wide g least rows) (rise i (suc i + length xs) (omega arith))
      ∙ ap (λ (n : ℕ). max (g n) (wide g least rows)) e

  pub wide-wrapped :
      (i : ℕ) (xs : List ℕ) (rows : List Row) → g (2 ^ 64 - 1) ≤ wide g least rows → wide g least (add_rows i xs rows) ≡ wide g least rows
  unfolding add_rows
  wide-wrapped i [] rows h = refl
  wide-wrapped i (a ∷ xs) rows h =
      let n : ℕ = i % 2 ^ 64 in
      let r : Row = record { number = n; address = some a } in
      let b : g n ≤ wide g least rows = (let u = rise n (2 ^ 64 - 1) (omega arith) in omega arith) in
      let e : wide g least (upsert row_key r rows) ≡ wide g least rows = wide-put g least r rows ∙ below (g n) (wide g least rows) b in
      wide-wrapped (suc i) xs (upsert row_key r rows) (omega (arith, e)) ∙ e
