-- The rows of the line table in the order of their numbers. Assumes nothing.
use mathlib.Core.Path.{◌≡◌, refl, sym, ap, ap₂, subst, ◌∙◌}
use mathlib.Core.Bool.{Bool, true, ◌&&◌, ◌||◌}
use mathlib.Core.List.{List, [], ◌∷◌, ◌++◌, flat_map, append-nil, append_assoc}
use mathlib.Core.Option.{Option, none, some}
use Prim.Native.Nat.{ℕ, zero, suc, ◌+◌, ◌-◌, ◌%◌, ◌^◌, ◌≤◌, ◌<◌, compare, Ordering}
use native.Mathlib.Omega.{arith}
use lib.ListN.{length, drop, length-take, take-append-drop, drop_of_length-le}
use lib.Seq.{take_all, drop-drop, length-take-le}
use lib.Dec.{leb}
use borrow.Author.Tests.{le-leb, lt-leb, leb-true, leb-false}
use Rattle.format.specs.Basics.{given, is_empty, is_some, every, keep, chain, All}
use Rattle.format.specs.Sorted.{order, upsert}
use Rattle.format.specs.ObjectFile.{ObjectFile, LineBlock, line_end, apart, never_fall, names_of, source_text, consistent}
use Rattle.format.specs.Words.{object_of}
use Rattle.format.specs.Utf8.{is_utf8}
use Rattle.format.proofs.WordsTrip.{words-only}
use Rattle.format.specs.Source.{line_count}
use Rattle.format.specs.TextWriter.{Row, row_key, plain_rows, add_rows, add_blocks, line_rows}
use Rattle.format.proofs.SortedLaws.{lt_of_compare, eq_of_compare, compare_self, compare_of_lt}
use Rattle.format.proofs.ListLaws.{by_test, both, all_map}
use Rattle.text_lines_out.specs.Merge.{smaller, block_rows, straight, wrapped, merge_from, walk_from}

abbrev row : ℕ → Option ℕ → Row
row i x = record { number = i; address = x }

-- ROWS THAT RISE from p, all below q
abbrev pub Between : ℕ → ℕ → List Row → Type 0
Between p q [] = p ≤ q
Between p q (r ∷ rs) = (p ≤ r.number) × Between (suc r.number) q rs

between_bound : (p q : ℕ) (rs : List Row) → Between p q rs → p ≤ q
between_bound p q [] h = h
between_bound p q (r ∷ rs) h = let l = between_bound (suc r.number) q rs h.1 in let g = h.0 in omega arith

between_append : (p q t : ℕ) (xs ys : List Row) → Between p q xs → Between q t ys → Between p t (xs ++ ys)
between_append p q t [] ys h k = lower ys k
  where
    lower : (ys : List Row) → Between q t ys → Between p t ys
    lower [] k = omega arith
    lower (y ∷ ys) k = let g = k.0 in (omega arith, k.1)
between_append p q t (x ∷ xs) ys h k = (h.0, between_append (suc x.number) q t xs ys h.1 k)

between_plain : (p n : ℕ) → Between p (p + n) (plain_rows p n)
unfolding plain_rows
between_plain p zero = omega arith
between_plain p (suc n) =
    let e : suc p + n ≡ p + suc n = omega arith in
    (omega arith, subst (λ (q : ℕ). Between (suc p) q (plain_rows (suc p) n)) e (between_plain (suc p) n))

between_block : (i : ℕ) (xs : List ℕ) → Between i (i + length xs) (block_rows i xs)
unfolding block_rows
between_block i [] = omega arith
between_block i (a ∷ xs) =
    let e : suc i + length xs ≡ i + suc (length xs) = omega arith in
    (omega arith, subst (λ (q : ℕ). Between (suc i) q (block_rows (suc i) xs)) e (between_block (suc i) xs))

between_up : (p q t : ℕ) (rs : List Row) → q ≤ t → Between p q rs → Between p t rs
between_up p q t [] h k = omega arith
between_up p q t (r ∷ rs) h k = (k.0, between_up (suc r.number) q t rs h k.1)

-- A ROW SET IN
compare_gt : (m n : ℕ) → n < m → compare m n ≡ Ordering.gt
compare_gt m n h = go (compare m n) refl
  where
    go : (o : Ordering) → compare m n ≡ o → o ≡ Ordering.gt
    go Ordering.lt e = absurd (let q = lt_of_compare m n e in omega arith)
    go Ordering.eq e = absurd (let q = eq_of_compare m n e in omega arith)
    go Ordering.gt e = refl

module _ (i : ℕ) (x : Option ℕ) where
  abbrev put : List Row → List Row
  put rs = upsert row_key (row i x) rs

  put_below : (r : Row) (rs : List Row) → r.number < i → put (r ∷ rs) ≡ r ∷ put rs
  unfolding upsert order
  put_below r rs h = rw (compare_gt i r.number h)

  put_same : (r : Row) (rs : List Row) → r.number ≡ i → put (r ∷ rs) ≡ row i x ∷ rs
  unfolding upsert order
  put_same r rs e = rw (e, compare_self i)

  put_above : (r : Row) (rs : List Row) → i < r.number → put (r ∷ rs) ≡ row i x ∷ r ∷ rs
  unfolding upsert order
  put_above r rs h = rw (compare_of_lt i r.number h)

  put-past : (p : ℕ) (done rs : List Row) → Between p i done → put (done ++ rs) ≡ done ++ put rs
  put-past p [] rs h = refl
  put-past p (r ∷ done) rs h =
      put_below r (done ++ rs) (between_bound (suc r.number) i done h.1)
      ∙ ap (λ (q : List Row). r ∷ q) (put-past (suc r.number) done rs h.1)

  put_plain : (n : ℕ) → put (plain_rows i n) ≡ row i x ∷ plain_rows (suc i) (n - 1)
  unfolding plain_rows upsert
  put_plain zero = refl
  put_plain (suc n) =
      let e : n ≡ suc n - 1 = omega arith in
      put_same (row i none) (plain_rows (suc i) n) refl ∙ ap (λ (k : ℕ). row i x ∷ plain_rows (suc i) k) e

-- the addresses of a block, from its first line on
add-rows :
    (lines i : ℕ) (xs : List ℕ) (p : ℕ) (done : List Row) → Between p i done → i + length xs ≤ 2 ^ 64
    → add_rows i xs (done ++ plain_rows i (lines - i))
    ≡ done ++ (block_rows i xs ++ plain_rows (i + length xs) (lines - (i + length xs)))
unfolding add_rows block_rows
add-rows lines i [] p done h k = let e : i ≡ i + 0 = omega arith in ap (λ (j : ℕ). done ++ plain_rows j (lines - j)) e
add-rows lines i (a ∷ xs) p done h k =
    let r = row i (some a) in
    let next = plain_rows (suc i) (lines - suc i) in
    let m : i % 2 ^ 64 ≡ i = omega arith in
    let n : lines - i - 1 ≡ lines - suc i = omega arith in
    let e : suc i + length xs ≡ i + suc (length xs) = omega arith in
    let one : Between i (suc i) (r ∷ []) = (omega arith, omega arith) in
    ap (λ (n : ℕ). add_rows (suc i) xs (upsert row_key (row n (some a)) (done ++ plain_rows i (lines - i)))) m
    ∙ ap (add_rows (suc i) xs)
    (put-past i (some a) p done (plain_rows i (lines - i)) h
    ∙ ap (λ (q : List Row). done ++ q) (put_plain i (some a) (lines - i) ∙ ap (λ (c : ℕ). r ∷ plain_rows (suc i) c) n)
    ∙ sym (append_assoc done (r ∷ []) next))
    ∙ add-rows lines (suc i) xs p (done ++ r ∷ []) (between_append p i (suc i) done (r ∷ []) h one) (omega arith)
    ∙ append_assoc done (r ∷ []) (block_rows (suc i) xs ++ plain_rows (suc i + length xs) (lines - (suc i + length xs)))
    ∙ ap (λ (j : ℕ). done ++ (r ∷ (block_rows (suc i) xs ++ plain_rows j (lines - j)))) e

pub add-append : (i : ℕ) (xs ys : List ℕ) (rs : List Row) → add_rows i (xs ++ ys) rs ≡ add_rows (i + length xs) ys (add_rows i xs rs)
unfolding add_rows
add-append i [] ys rs = let e : i ≡ i + 0 = omega arith in ap (λ (j : ℕ). add_rows j ys rs) e
add-append i (x ∷ xs) ys rs =
    let e : suc i + length xs ≡ i + suc (length xs) = omega arith in
    let R = upsert row_key (row (i % 2 ^ 64) (some x)) rs in
    add-append (suc i) xs ys R ∙ ap (λ (j : ℕ). add_rows j ys (add_rows (suc i) xs R)) e

-- the source's rows up to a line, and from there on
plain_add : (p a b : ℕ) → plain_rows p (a + b) ≡ plain_rows p a ++ plain_rows (p + a) b
unfolding plain_rows
plain_add p zero b =
    let e : p ≡ p + 0 = omega arith in
    let f : 0 + b ≡ b = omega arith in
    ap (plain_rows p) f ∙ ap (λ (j : ℕ). plain_rows j b) e
plain_add p (suc a) b =
    let f : suc a + b ≡ suc (a + b) = omega arith in
    let e : suc p + a ≡ p + suc a = omega arith in
    ap (plain_rows p) f
    ∙ ap (λ (q : List Row). row p none ∷ q) (plain_add (suc p) a b ∙ ap (λ (j : ℕ). plain_rows (suc p) a ++ plain_rows j b) e)

plain_none : (p n : ℕ) → n ≡ 0 → plain_rows p n ≡ []
unfolding plain_rows
plain_none p n e = ap (plain_rows p) e

abbrev gap : ℕ → ℕ → ℕ → List Row
gap lines p f = plain_rows p (f - (f - lines) - p)

plain_split : (lines p i : ℕ) → p ≤ i → plain_rows p (lines - p) ≡ gap lines p i ++ plain_rows i (lines - i)
plain_split lines p i h =
    let a : ℕ = i - (i - lines) - p in
    let b : ℕ = lines - i in
    by_test (leb i lines)
    (λ t. let l = leb-true i lines t in
    let e : lines - p ≡ a + b = omega arith in
    let q : p + a ≡ i = omega arith in
    ap (plain_rows p) e ∙ plain_add p a b ∙ ap (λ (j : ℕ). plain_rows p a ++ plain_rows j b) q)
    (λ t. let l = leb-false i lines t in
    let e : lines - p ≡ a = omega arith in
    let z : b ≡ 0 = omega arith in
    ap (plain_rows p) e ∙ sym (ap (λ (q : List Row). plain_rows p a ++ q) (plain_none i b z) ∙ append-nil (plain_rows p a)))

-- LINE BLOCKS that rise and are apart, from line p on
abbrev pub Apart : ℕ → List LineBlock → Type 0
Apart p [] = Unit {0}
Apart p (l ∷ ls) = (p ≤ l.first) × (l.first < 2 ^ 64) × Apart (line_end l) ls

between_gap : (lines p f : ℕ) → p ≤ f → Between p f (gap lines p f)
between_gap lines p f h = between_up p (p + (f - (f - lines) - p)) f (gap lines p f) (omega arith) (between_plain p (f - (f - lines) - p))

merge_step : (lines p : ℕ) (l : LineBlock) (ls : List LineBlock) → p ≤ l.first
    → merge_from lines p (l ∷ ls) ≡ gap lines p l.first ++ (block_rows l.first (straight l) ++ merge_from lines (line_end l) ls)
unfolding merge_from
merge_step lines p l ls h =
    let e : p + (l.first - p) ≡ l.first = omega arith in
    let z : p - l.first ≡ 0 = omega arith in
    let n : p + (line_end l - p) ≡ line_end l = omega arith in
    ap (λ (i : ℕ). gap lines p l.first ++ (block_rows i (drop (p - l.first) (straight l)) ++ merge_from lines
    (p + (line_end l - p)) ls)) e
    ∙ ap (λ (k : ℕ). gap lines p l.first ++ (block_rows l.first (drop k (straight l)) ++ merge_from lines (p + (line_end l - p)) ls)) z
    ∙ ap (λ (k : ℕ). gap lines p l.first ++ (block_rows l.first (straight l) ++ merge_from lines k ls)) n

pub wrapped-cons : (l : LineBlock) (ls : List LineBlock) → wrapped (l ∷ ls) ≡ drop (2 ^ 64 - l.first) l.addresses ++ wrapped ls
unfolding wrapped flat_map
wrapped-cons l ls = refl

merged :
    (lines : ℕ) → lines ≤ 2 ^ 64 → (q p : ℕ) (done : List Row) (ls : List LineBlock) → Between q p done → Apart p ls
    → add_blocks ls (done ++ plain_rows p (lines - p)) ≡ add_rows (2 ^ 64) (wrapped ls) (done ++ merge_from lines p ls)
unfolding add_blocks add_rows merge_from wrapped flat_map
merged lines few q p done [] h s = refl
merged lines few q p done (l ∷ ls) h s =
    let f : ℕ = l.first in
    let xs : List ℕ = l.addresses in
    let g = gap lines p f in
    let D = done ++ g in
    let b : Between q f D = between_append q p f done g h (between_gap lines p f s.0) in
    let first : done ++ plain_rows p (lines - p) ≡ D ++ plain_rows f (lines - f) =
    ap (λ (r : List Row). done ++ r) (plain_split lines p f s.0) ∙ sym (append_assoc done g (plain_rows f (lines - f))) in
    ap (λ (r : List Row). add_blocks ls (add_rows f xs r)) first
    ∙ by_test (leb (f + length xs) (2 ^ 64))
    (λ t. let k = leb-true (f + length xs) (2 ^ 64) t in
    let c : straight l ≡ xs = take_all (2 ^ 64 - f) xs (omega arith) in
    let w : drop (2 ^ 64 - f) xs ≡ [] = drop_of_length-le xs (let z : length xs ≤ 2 ^ 64 - f = omega arith in z) in
    ap (add_blocks ls)
    (add-rows lines f xs q D b k ∙ sym (append_assoc D (block_rows f xs) (plain_rows (line_end l) (lines - line_end l))))
    ∙ merged lines few q (line_end l) (D ++ block_rows f xs) ls
    (between_append q f (line_end l) D (block_rows f xs) b (between_block f xs)) s.2
    ∙ ap (λ (r : List ℕ). add_rows (2 ^ 64) (r ++ wrapped ls) (D ++ block_rows f xs ++ merge_from lines (line_end l) ls)) (sym w)
    ∙ ap (add_rows (2 ^ 64) (wrapped (l ∷ ls)))
    (append_assoc D (block_rows f xs) (merge_from lines (line_end l) ls)
    ∙ append_assoc done g (block_rows f xs ++ merge_from lines (line_end l) ls)
    ∙ ap (λ (ys : List ℕ). done ++ (g ++ (block_rows f ys ++ merge_from lines (line_end l) ls))) (sym c)
    ∙ ap (λ (r : List Row). done ++ r) (sym (merge_step lines p l ls s.0))))
    (λ t. let k = leb-false (f + length xs) (2 ^ 64) t in last ls s.2 b k)
  where
    last : (ls : List LineBlock) → Apart (line_end l) ls → Between q l.first (done ++ gap lines p l.first)
        → 2 ^ 64 < l.first + length l.addresses
        → add_blocks ls (add_rows l.first l.addresses (done ++ gap lines p l.first ++ plain_rows l.first (lines - l.first)))
        ≡ add_rows (2 ^ 64) (wrapped (l ∷ ls)) (done ++ merge_from lines p (l ∷ ls))
    last (m ∷ ms) a b k = let u = a.0 in let v = a.1 in absurd (omega arith)
    last [] a b k =
        let f : ℕ = l.first in
        let xs : List ℕ = l.addresses in
        let c = straight l in
        let w = drop (2 ^ 64 - f) xs in
        let g = gap lines p f in
        let D = done ++ g in
        let n : length c ≡ 2 ^ 64 - f = length-take-le (2 ^ 64 - f) xs (omega arith) in
        let below = s.1 in
        let top : f + length c ≡ 2 ^ 64 = omega arith in
        let none_left : plain_rows (f + length c) (lines - (f + length c)) ≡ [] = plain_none (f + length c) (lines - (f + length c))
        (omega arith) in
        let none-past : plain_rows (line_end l) (lines - line_end l) ≡ [] = plain_none (line_end l) (lines - line_end l) (omega arith) in
        let R = D ++ plain_rows f (lines - f) in
        ap (λ (ys : List ℕ). add_rows f ys R) (sym (take-append-drop (2 ^ 64 - f) xs))
        ∙ add-append f c w R
        ∙ ap (λ (j : ℕ). add_rows j w (add_rows f c R)) top
        ∙ ap (add_rows (2 ^ 64) w)
        (add-rows lines f c q D b (omega arith) ∙ ap (λ (r : List Row). D ++ (block_rows f c ++ r)) none_left
        ∙ append_assoc done g (block_rows f c ++ [])
        ∙ ap (λ (r : List Row). done ++ (g ++ (block_rows f c ++ r))) (sym none-past)
        ∙ ap (λ (r : List Row). done ++ r) (sym (merge_step lines p l [] s.0)))
        ∙ ap (λ (ys : List ℕ). add_rows (2 ^ 64) ys (done ++ merge_from lines p (l ∷ []))) (sym (append-nil w))

-- ROWS FROM A NUMBER ON
abbrev pub from : ℕ → List Row → List Row
from m rs = keep (λ r. leb m r.number) rs

-- of three numbers
less_twice : (x p m : ℕ) → x - p - (m - p) ≡ x - (p + (m - p))
less_twice x p m = omega arith

largest : (p f m : ℕ) → p + (f - p) + (m - (p + (f - p))) ≡ p + (m - p) + (f - (p + (m - p)))
largest p f m = omega arith

over : (p f m : ℕ) → p - f + (m - (p + (f - p))) ≡ p + (m - p) - f
over p f m = omega arith

module _ (m : ℕ) where
  from-kept : (r : Row) (rs : List Row) → m ≤ r.number → from m (r ∷ rs) ≡ r ∷ from m rs
  unfolding keep
  from-kept r rs h = rw (le-leb m r.number h)

  from-left : (r : Row) (rs : List Row) → r.number < m → from m (r ∷ rs) ≡ from m rs
  unfolding keep
  from-left r rs h = rw (lt-leb m r.number h)

  from_all : (p t : ℕ) (rs : List Row) → m ≤ p → Between p t rs → from m rs ≡ rs
  unfolding keep
  from_all p t [] h b = refl
  from_all p t (r ∷ rs) h b =
      let g = b.0 in
      from-kept r rs (omega arith) ∙ ap (λ (q : List Row). r ∷ q) (from_all (suc r.number) t rs (omega arith) b.1)

  from-append : (xs ys : List Row) → from m (xs ++ ys) ≡ from m xs ++ from m ys
  unfolding keep
  from-append [] ys = refl
  from-append (r ∷ xs) ys =
      by_test (leb m r.number)
      (λ t. let h = leb-true m r.number t in
      from-kept r (xs ++ ys) h ∙ ap (λ (q : List Row). r ∷ q) (from-append xs ys)
      ∙ ap (λ (q : List Row). q ++ from m ys) (sym (from-kept r xs h)))
      (λ t. let h = leb-false m r.number t in
      from-left r (xs ++ ys) h ∙ from-append xs ys ∙ ap (λ (q : List Row). q ++ from m ys) (sym (from-left r xs h)))

  from_plain : (p n : ℕ) → from m (plain_rows p n) ≡ plain_rows (p + (m - p)) (n - (m - p))
  unfolding keep plain_rows
  from_plain p zero = let e : 0 ≡ 0 - (m - p) = omega arith in ap (plain_rows (p + (m - p))) e
  from_plain p (suc n) =
      by_test (leb m p)
      (λ t. let h = leb-true m p t in
      let e : p + (m - p) ≡ p = omega arith in
      let e' : suc p + (m - suc p) ≡ suc p = omega arith in
      let k : suc n - (m - p) ≡ suc n = omega arith in
      let k' : n - (m - suc p) ≡ n = omega arith in
      from-kept (row p none) (plain_rows (suc p) n) h
      ∙ ap (λ (q : List Row). row p none ∷ q) (from_plain (suc p) n ∙ ap₂ plain_rows e' k') ∙ sym (ap₂ plain_rows e k))
      (λ t. let h = leb-false m p t in
      let e : suc p + (m - suc p) ≡ p + (m - p) = omega arith in
      let k : n - (m - suc p) ≡ suc n - (m - p) = omega arith in
      from-left (row p none) (plain_rows (suc p) n) h ∙ from_plain (suc p) n ∙ ap₂ plain_rows e k)

  from_block : (i : ℕ) (xs : List ℕ) → from m (block_rows i xs) ≡ block_rows (i + (m - i)) (drop (m - i) xs)
  unfolding keep block_rows
  from_block i [] = go (m - i)
    where
      go : (k : ℕ) → [] ≡ block_rows (i + k) (drop k [])
      go zero = refl
      go (suc k) = refl
  from_block i (a ∷ xs) =
      by_test (leb m i)
      (λ t. let h = leb-true m i t in
      let e : i + (m - i) ≡ i = omega arith in
      let e' : suc i + (m - suc i) ≡ suc i = omega arith in
      let z : m - i ≡ 0 = omega arith in
      let z' : m - suc i ≡ 0 = omega arith in
      from-kept (row i (some a)) (block_rows (suc i) xs) h
      ∙ ap (λ (q : List Row). row i (some a) ∷ q) (from_block (suc i) xs ∙ ap₂ (λ (j k : ℕ). block_rows j (drop k xs)) e' z')
      ∙ sym (ap₂ (λ (j k : ℕ). block_rows j (drop k (a ∷ xs))) e z))
      (λ t. let h = leb-false m i t in
      let e : suc i + (m - suc i) ≡ i + (m - i) = omega arith in
      let k : suc (m - suc i) ≡ m - i = omega arith in
      from-left (row i (some a)) (block_rows (suc i) xs) h ∙ from_block (suc i) xs
      ∙ ap (λ (j : ℕ). block_rows j (drop (m - suc i) xs)) e ∙ ap (λ (j : ℕ). block_rows (i + (m - i)) (drop j (a ∷ xs))) k)

  -- those of the walk
  from_merge : (lines p : ℕ) (ls : List LineBlock) → from m (merge_from lines p ls) ≡ merge_from lines (p + (m - p)) ls
  unfolding merge_from
  from_merge lines p [] =
      let e : lines - p - (m - p) ≡ lines - (p + (m - p)) = omega arith in from_plain p (lines - p) ∙ ap (plain_rows (p + (m - p))) e
  from_merge lines p (l ∷ ls) =
      let f : ℕ = l.first in
      let E : ℕ = line_end l in
      let c = straight l in
      let P : ℕ = p + (m - p) in
      let s : ℕ = p + (f - p) in
      let p' : ℕ = p + (E - p) in
      let g = plain_rows p (f - (f - lines) - p) in
      let b = block_rows s (drop (p - f) c) in
      let e1 : f - (f - lines) - p - (m - p) ≡ f - (f - lines) - P = less_twice (f - (f - lines)) p m in
      let e2 : s + (m - s) ≡ P + (f - P) = largest p f m in
      let e3 : p - f + (m - s) ≡ P - f = over p f m in
      let e4 : p' + (m - p') ≡ P + (E - P) = largest p E m in
      from-append g (b ++ merge_from lines p' ls)
      ∙ ap₂ (λ (x y : List Row). x ++ y) (from_plain p (f - (f - lines) - p) ∙ ap (plain_rows P) e1)
      (from-append b (merge_from lines p' ls)
      ∙ ap₂ (λ (x y : List Row). x ++ y)
      (from_block s (drop (p - f) c)
      ∙ ap₂ (λ (j : ℕ) (ys : List ℕ). block_rows j ys) e2 (drop-drop (m - s) (p - f) c ∙ ap (λ (k : ℕ). drop k c) e3))
      (from_merge lines p' ls ∙ ap (λ (k : ℕ). merge_from lines k ls) e4))

from-from : (a b : ℕ) (rs : List Row) → a ≤ b → from b (from a rs) ≡ from b rs
unfolding keep
from-from a b [] h = refl
from-from a b (r ∷ rs) h =
    by_test (leb a r.number)
    (λ t. ap (from b) (from-kept a r rs (leb-true a r.number t))
    ∙ by_test (leb b r.number)
    (λ u. let k =
    leb-true b r.number u in
    from-kept b r (from a rs) k ∙ ap (λ (q : List Row). r ∷ q) (from-from a b rs h) ∙ sym (from-kept b r rs k))
    (λ u. let k = leb-false b r.number u in from-left b r (from a rs) k ∙ from-from a b rs h ∙ sym (from-left b r rs k)))
    (λ t. let k = leb-false a r.number t in
    ap (from b) (from-left a r rs k) ∙ from-from a b rs h ∙ sym (from-left b r rs (omega arith)))

from_between : (m p t : ℕ) (rs : List Row) → Between p t rs → m ≤ t → Between m t (from m rs)
unfolding keep
from_between m p t [] b h = h
from_between m p t (r ∷ rs) b h =
    by_test (leb m r.number)
    (λ u. let k = leb-true m r.number u in
    subst (λ (q : List Row). Between m t q)
    (sym (from-kept m r rs k ∙ ap (λ (q : List Row). r ∷ q) (from_all m (suc r.number) t rs (omega arith) b.1))) (k, b.1))
    (λ u. let k = leb-false m r.number u in
    subst (λ (q : List Row). Between m t q) (sym (from-left m r rs k)) (from_between m (suc r.number) t rs b.1 h))

-- LINES THAT WRAP: their rows replace the first
put_first : (j : ℕ) (x : Option ℕ) (t : ℕ) (rs : List Row) → Between j t rs → put j x rs ≡ row j x ∷ from (suc j) rs
unfolding keep upsert
put_first j x t [] b = refl
put_first j x t (r ∷ rs) b =
    let g = b.0 in
    by_test (leb (suc j) r.number)
    (λ u. let k = leb-true (suc j) r.number u in
    put_above j x r rs (omega arith)
    ∙ ap (λ (q : List Row). row j x ∷ q) (sym (from_all (suc j) (suc j) t (r ∷ rs) (omega arith) (k, b.1))))
    (λ u. let k = leb-false (suc j) r.number u in
    let e : r.number ≡ j = omega arith in
    put_same j x r rs e
    ∙ ap (λ (q : List Row). row j x ∷ q)
    (sym (from-left (suc j) r rs (omega arith) ∙ from_all (suc j) (suc r.number) t rs (omega arith) b.1)))

wraps :
    (j t : ℕ) (xs : List ℕ) (p : ℕ) (low rs : List Row) → Between p j low → Between j t rs → j + length xs ≤ t → t ≤ 2 ^ 64
    → add_rows (2 ^ 64 + j) xs (low ++ rs) ≡ low ++ (block_rows j xs ++ from (j + length xs) rs)
unfolding add_rows block_rows
wraps j t [] p low rs a b h k =
    let e : j + 0 ≡ j = omega arith in
    ap (λ (q : List Row). low ++ q) (sym (ap (λ (i : ℕ). from i rs) e ∙ from_all j j t rs (omega arith) b))
wraps j t (x ∷ xs) p low rs a b h k =
    let r = row j (some x) in
    let m : (2 ^ 64 + j) % 2 ^ 64 ≡ j = omega arith in
    let n : suc (2 ^ 64 + j) ≡ 2 ^ 64 + suc j = omega arith in
    let e : suc j + length xs ≡ j + suc (length xs) = omega arith in
    let next = from (suc j) rs in
    let one : Between j (suc j) (r ∷ []) = (omega arith, omega arith) in
    ap (λ (i : ℕ). add_rows (suc (2 ^ 64 + j)) xs (upsert row_key (row i (some x)) (low ++ rs))) m
    ∙ ap (add_rows (suc (2 ^ 64 + j)) xs)
    (put-past j (some x) p low rs a ∙ ap (λ (q : List Row). low ++ q) (put_first j (some x) t rs b) ∙ sym (append_assoc low
    (r ∷ []) next))
    ∙ ap (λ (i : ℕ). add_rows i xs (low ++ r ∷ [] ++ next)) n
    ∙ wraps (suc j) t xs p (low ++ r ∷ []) next (between_append p j (suc j) low (r ∷ []) a one)
    (from_between (suc j) j t rs b (omega arith)) (omega arith) k
    ∙ append_assoc low (r ∷ []) (block_rows (suc j) xs ++ from (suc j + length xs) next)
    ∙ ap (λ (q : List Row). low ++ (r ∷ (block_rows (suc j) xs ++ q)))
    (from-from (suc j) (suc j + length xs) rs (omega arith) ∙ ap (λ (i : ℕ). from i rs) e)

-- the walk's rows rise, all below the largest 64-bit value and it
between_merge : (lines : ℕ) → lines ≤ 2 ^ 64 → (p : ℕ) (ls : List LineBlock) → p ≤ 2 ^ 64 → Apart p ls
    → Between p (2 ^ 64) (merge_from lines p ls)
unfolding merge_from
between_merge lines h p [] k a =
    between_up p (p + (lines - p)) (2 ^ 64) (plain_rows p (lines - p)) (omega arith) (between_plain p (lines - p))
between_merge lines h p (l ∷ ls) k a =
    let f : ℕ = l.first in
    let c = straight l in
    let n = length-take (2 ^ 64 - f) l.addresses in
    let below = a.1 in
    subst (λ (r : List Row). Between p (2 ^ 64) r) (sym (merge_step lines p l ls a.0))
    (between_append p f (2 ^ 64) (gap lines p f) (block_rows f c ++ merge_from lines (line_end l) ls) (between_gap lines p f a.0)
    (by_test (leb (line_end l) (2 ^ 64))
    (λ t. let g = leb-true (line_end l) (2 ^ 64) t in
    let e : f + length c ≡ line_end l = omega (arith, ap length (take_all (2 ^ 64 - f) l.addresses (omega arith))) in
    between_append f (line_end l) (2 ^ 64) (block_rows f c) (merge_from lines (line_end l) ls)
    (subst (λ (q : ℕ). Between f q (block_rows f c)) e (between_block f c)) (between_merge lines h (line_end l) ls g a.2))
    (λ t. let g = leb-false (line_end l) (2 ^ 64) t in last ls a.2 g)))
  where
    last : (ls : List LineBlock) → Apart (line_end l) ls → 2 ^ 64 < line_end l
        → Between l.first (2 ^ 64) (block_rows l.first (straight l) ++ merge_from lines (line_end l) ls)
    last (m ∷ ms) b g = let u = b.0 in let v = b.1 in absurd (omega arith)
    last [] b g =
        let f : ℕ = l.first in
        let c = straight l in
        let below = a.1 in
        let n : length c ≡ 2 ^ 64 - f = length-take-le (2 ^ 64 - f) l.addresses (omega arith) in
        let e : f + length c ≡ 2 ^ 64 = omega arith in
        subst (λ (r : List Row). Between f (2 ^ 64) (block_rows f c ++ r)) (sym (plain_none (line_end l) (lines - line_end l) (omega arith)))
        (between_append f (2 ^ 64) (2 ^ 64) (block_rows f c) [] (subst (λ (q : ℕ). Between f q (block_rows f c)) e (between_block f c))
        (omega arith))

-- THE ROWS OF THE LINE TABLE: those that wrapped, and from there on those of the walk
pub line-rows :
    (s : List ℕ) (ls : List LineBlock) → line_count s ≤ 2 ^ 64 → Apart 0 ls → length (wrapped ls) ≤ 2 ^ 64
    → line_rows s ls ≡ block_rows 0 (wrapped ls) ++ merge_from (line_count s) (length (wrapped ls)) ls
unfolding line_rows
line-rows s ls few a short =
    let lines : ℕ = line_count s in
    let w = wrapped ls in
    let M = merge_from lines 0 ls in
    let e : lines ≡ lines - 0 = omega arith in
    let z : 0 + length w ≡ length w = omega arith in
    let y : 0 + (length w - 0) ≡ length w = omega arith in
    ap (λ (n : ℕ). add_blocks ls (plain_rows 0 n)) e
    ∙ merged lines few 0 0 [] ls (omega arith) a
    ∙ wraps 0 (2 ^ 64) w 0 [] M (omega arith) (between_merge lines few 0 ls (omega arith) a) (omega arith) (omega arith)
    ∙ ap (λ (i : ℕ). block_rows 0 w ++ from i M) z
    ∙ ap (λ (r : List Row). block_rows 0 w ++ r) (from_merge (length w) lines 0 ls ∙ ap (λ (i : ℕ). merge_from lines i ls) y)

-- BY WHAT A WALK KNOWS
plain_done : (lines p x : ℕ) → x ≤ lines → plain_rows p (x - p) ≡ plain_rows (smaller p lines) (x - smaller p lines)
plain_done lines p x h =
    by_test (leb p lines)
    (λ t. let l = leb-true p lines t in
    let e : p ≡ smaller p lines = omega arith in ap (λ (q : ℕ). plain_rows q (x - q)) e)
    (λ t. let l = leb-false p lines t in
    plain_none p (x - p) (omega arith) ∙ sym (plain_none (smaller p lines) (x - smaller p lines) (omega arith)))

past-start : (w e f : ℕ) → e ≤ f → w + (e - w) + (f - (w + (e - w))) ≡ w + (f - w)
past-start w e f h = omega arith

past_skip : (w e f : ℕ) → e ≤ f → w + (e - w) - f ≡ w - f
past_skip w e f h = omega arith

pub past-done : (lines w e f : ℕ) → e ≤ f
    → smaller (w + (f - w)) lines ≡ smaller (w + (e - w)) lines + (smaller f lines - smaller (w + (e - w)) lines)
past-done lines w e f h =
    by_test (leb w e)
    (λ t. let l = leb-true w e t in
    let a : w + (e - w) ≡ e = omega arith in
    let b : w + (f - w) ≡ f = omega arith in
    ap (λ (x : ℕ). smaller x lines) b ∙ rising e f h ∙ sym (ap (λ (x : ℕ). smaller x lines + (smaller f lines - smaller x lines)) a))
    (λ t. let l = leb-false w e t in
    let a : w + (e - w) ≡ w = omega arith in
    largest_of f ∙ sym (ap (λ (x : ℕ). smaller x lines + (smaller f lines - smaller x lines)) a))
  where
    rising : (e f : ℕ) → e ≤ f → smaller f lines ≡ smaller e lines + (smaller f lines - smaller e lines)
    rising e f h = omega arith

    largest_of : (f : ℕ) → smaller (w + (f - w)) lines ≡ smaller w lines + (smaller f lines - smaller w lines)
    largest_of f =
        by_test (leb w f)
        (λ t. let l = leb-true w f t in let b : w + (f - w) ≡ f = omega arith in ap (λ (x : ℕ). smaller x lines) b ∙ rising w f l)
        (λ t. let l = leb-false w f t in
        let b : w + (f - w) ≡ w = omega arith in
        let c : smaller f lines ≤ smaller w lines = omega arith in
        ap (λ (x : ℕ). smaller x lines) b
        ∙ (let y : smaller w lines ≡ smaller w lines + (smaller f lines - smaller w lines) = omega arith in y))

walk_is :
    (lines w e : ℕ) (ls : List LineBlock) → Apart e ls → merge_from lines (w + (e - w)) ls ≡ walk_from lines w
    (smaller (w + (e - w)) lines) ls
unfolding merge_from walk_from
walk_is lines w e [] a = plain_done lines (w + (e - w)) lines (omega arith)
walk_is lines w e (l ∷ ls) a =
    let f : ℕ = l.first in
    let E : ℕ = line_end l in
    let p : ℕ = w + (e - w) in
    let h : e ≤ f = a.0 in
    let k : e ≤ E = omega arith in
    ap₂ (λ (x y : List Row). x ++ y) (plain_done lines p (smaller f lines) (omega arith))
    (ap₂ (λ (x y : List Row). x ++ y)
    (ap (λ (i : ℕ). block_rows i (drop (p - f) (straight l))) (past-start w e f h)
    ∙ ap (λ (i : ℕ). block_rows (w + (f - w)) (drop i (straight l))) (past_skip w e f h))
    (ap (λ (i : ℕ). merge_from lines i ls) (past-start w e E k) ∙ walk_is lines w E ls a.2
    ∙ ap (λ (d : ℕ). walk_from lines w d ls) (past-done lines w e E k)))

-- THE ROWS OF THE LINE TABLE, as a walk gives them
pub line_walk :
    (s : List ℕ) (ls : List LineBlock) → line_count s ≤ 2 ^ 64 → Apart 0 ls → length (wrapped ls) ≤ 2 ^ 64
    → line_rows s ls
    ≡ block_rows 0 (wrapped ls) ++ walk_from (line_count s) (length (wrapped ls)) (smaller (length (wrapped ls)) (line_count s)) ls
line_walk s ls few a short =
    let w : ℕ = length (wrapped ls) in
    let e : w + (0 - w) ≡ w = omega arith in
    line-rows s ls few a short
    ∙ ap (λ (r : List Row). block_rows 0 (wrapped ls) ++ r)
    (ap (λ (i : ℕ). merge_from (line_count s) i ls) (sym e) ∙ walk_is (line_count s) w 0 ls a
    ∙ ap (λ (i : ℕ). walk_from (line_count s) w (smaller i (line_count s)) ls) e)

-- LINE BLOCKS OF AN OBJECT are apart where it is consistent and their first lines are 64-bit numbers
pub apart_is : (ls : List LineBlock) → apart ls ≡ true → All (λ l. l.first < 2 ^ 64) ls → Apart 0 ls
unfolding apart chain
apart_is [] e a = tt
apart_is (l ∷ ls) e a = go 0 l ls (omega arith) e a
  where
    go : (p : ℕ) (l : LineBlock) (ls : List LineBlock) → p ≤ l.first → chain (λ l m. leb (line_end l) m.first) (l ∷ ls) ≡ true
        → All (λ l. l.first < 2 ^ 64) (l ∷ ls) → Apart p (l ∷ ls)
    go p l [] h e a = (h, a.0, tt)
    go p l (m ∷ ls) h e a =
        unfold chain in
        let b = both (leb (line_end l) m.first) (chain (λ l m. leb (line_end l) m.first) (m ∷ ls)) e in
        (h, a.0, go (line_end l) m ls (leb-true (line_end l) m.first b.0) b.1 a.1)

pub lines-apart : (ws : List ℕ) (h : ObjectFile) → object_of ws ≡ given h → Apart 0 h.line_blocks
unfolding consistent
lines-apart ws h e =
    let w = words-only ws h e in
    let a = every (λ b. leb (length b.words) 65535) h.blocks in
    let b = apart h.line_blocks in
    let c = every (λ l. never_fall l.addresses) h.line_blocks in
    let d = is_empty h.line_blocks || is_some h.source in
    let n = every is_utf8 (names_of h) in
    let s = is_utf8 (source_text h.source) in
    apart_is h.line_blocks (second a b c d n s w.1.consistent)
    (all_map (λ l i. let k : l.first < 2 ^ 64 = i.0 in k) h.line_blocks w.2.line_blocks)
  where
    second : (a b c d n s : Bool) → (a && b && c && d && n && s) ≡ true → b ≡ true
    second a b c d n s e =
        (both a b (both (a && b) c (both (a && b && c) d (both (a && b && c && d) n (both (a && b && c && d && n) s e).0).0).0).0).1
