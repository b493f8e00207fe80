-- Streams of rows, and the next label of two. Assumes nothing.
use mathlib.Core.Path.{◌≡◌, refl, sym, ap, ◌∙◌}
use mathlib.Core.Bool.{true, false}
use mathlib.Core.List.{List, [], ◌++◌, map}
use Prim.Native.Nat.{ℕ, ◌≤◌, ◌<◌}
use native.Mathlib.Omega.{arith}
use lib.ListN.{length, take, drop, length-take, length-append, length-map, take-append-drop, drop_of_length-le}
use lib.Seq.{take_all, length-take-le}
use lib.Dec.{leb}
use borrow.Author.Tests.{leb-true, leb-false}
use Rattle.format.specs.Records.{Record}
use Rattle.format.proofs.ListLaws.{by_test}
use Rattle.gather.proofs.OrderLaws.{held_front}
use Rattle.text_rows.specs.Rows.{number_of, row_at}
use Rattle.text_gather.specs.Order.{left, HandsOut}
use Rattle.text_gather.specs.declared.Sorting.{Sorting}
use Rattle.text_labels.specs.declared.Stream.{Stream}
use Rattle.label_items.specs.Joins.{Tables}
use Rattle.text_words.specs.Written.{words_at}
use Rattle.text_labels.specs.Labels.{left_in, Within, Refilled, both_words, next_words}

-- a window that is not used up stays
pub refill_stays : (kind : ℕ) (t win : List ℕ) (s : Stream) → Within kind win s → s.i < s.n → Refilled kind t win win s s
refill_stays kind t win s w h = record { there = w; same = refl; ended = λ k. absurd (let z : ⊥ = omega arith in z) }

module _ (kind : ℕ) (t : List ℕ) (rows : List Record) (found now : List ℕ) (n : ℕ) (others : List Record) (h : HandsOut kind t rows found now n others) where
  counts : n ≡ length (take (length found) rows)
  counts = h.held.count ∙ sym (length-map h.places (row_at kind t)) ∙ ap length h.values

  fits : n ≤ length now
  fits = omega (arith, ap length h.held.holds, length-append h.places (drop n found), h.held.count)

  front : take (length found) rows ≡ take n rows
  front =
      by_test (leb (length found) (length rows))
      (λ u. let e : n ≡ length found = counts ∙ length-take-le (length found) rows (leb-true (length found) (length rows) u) in ap (λ (j : ℕ). take j rows) (sym e))
      (λ u. let g = leb-false (length found) (length rows) u in
      let e : n ≡ length rows = counts ∙ ap length (take_all (length found) rows (omega arith)) in
      take_all (length found) rows (omega arith) ∙ sym (take_all n rows (omega arith)))

  whole : map (row_at kind t) (take n now) ++ others ≡ rows
  whole =
      let p : take n now ≡ h.places = held_front h.places found now n h.held in
      ap (λ (x : List ℕ). map (row_at kind t) x ++ others) p ∙ ap (λ (x : List Record). x ++ others) (h.values ∙ front)
      ∙ ap (λ (x : List Record). take n rows ++ x) h.others ∙ take-append-drop n rows

  none : n ≤ 0 → 0 < length found → rows ≡ []
  none z p = let l : length rows ≤ 0 = omega (arith, counts, length-take (length found) rows) in drop_of_length-le rows {i = 0} l

-- the next window
pub refill_next : (kind : ℕ) (t win win' : List ℕ) (s : Stream) (o : Sorting) (n : ℕ) → Within kind win s → s.n ≤ s.i → 0 < length win → number_of o.kind ≡ kind
    → HandsOut kind t (left t s.sorting) win win' n (left t o) → Refilled kind t win win' s (record { sorting = o; i = 0; n = n })
unfolding left_in
refill_next kind t win win' s o n w e p k h =
    let rows = left t s.sorting in
    let x : drop s.i (take s.n win) ≡ [] = drop_of_length-le (take s.n win) {i = s.i} (omega (arith, length-take s.n win)) in
    let y = whole kind t rows win win' n (left t o) h in
    record {
      there = record { same_kind = k; ordered = omega arith; inside = fits kind t rows win win' n (left t o) h };
      same = y ∙ sym (ap (λ (ps : List ℕ). map (row_at kind t) ps ++ rows) x);
      ended = λ z. y ∙ none kind t rows win win' n (left t o) h z p;
    }

-- THE WORDS of the next label
pub next_both : (x : Tables) (t : List ℕ) (p q : ℕ) → x.symbol ≡ true → x.start ≡ true → both_words t p q ≡ next_words x t p q
unfolding next_words
next_both x t p q e f = rw (e, f) refl

pub next-symbol : (x : Tables) (t : List ℕ) (p q : ℕ) → x.symbol ≡ true → x.start ≡ false → words_at 1 t p ≡ next_words x t p q
unfolding next_words
next-symbol x t p q e f = rw (e, f) refl

pub next_start_lem : (x : Tables) (t : List ℕ) (p q : ℕ) → x.symbol ≡ false → words_at 3 t q ≡ next_words x t p q
unfolding next_words
next_start_lem x t p q e = rw e refl
