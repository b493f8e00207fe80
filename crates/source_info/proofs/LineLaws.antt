-- The bytes of a line and the position of an index, found in one pass. Assumes nothing.
use mathlib.Core.Path.{◌≡◌, refl, sym, ◌∙◌, ap}
use mathlib.Core.Bool.{Bool}
use mathlib.Core.List.{List, [], ◌∷◌}
use Prim.Native.Nat.{ℕ, zero, suc, ◌+◌, ◌-◌, ◌≤◌, ◌<◌, min}
use native.Mathlib.Nat.{min-eq_left, min-eq_right, zero-add, add-zero}
use native.Mathlib.Omega.{arith}
use native.Mathlib.Numerals.{add-one}
use lib.ListN.{length, drop, get_or, drop_of_length-le}
use lib.Seq.{drop-cons}
use lib.Dec.{ltb, eqb}
use borrow.Author.Tests.{ltb-true, ltb-false, lt-ltb, le-ltb, eq-eqb, ne_eqb, eqb-true, eqb-false}
use Rattle.std.specs.Prelude.{if◌then◌else◌}
use Rattle.format.specs.Basics.{Outcome, refused, ◌>>=◌, ask}
use Rattle.format.specs.Source.{newlines, Span, line_count, nl_indices_from, nl_indices, line_start, raw_line_span, Position, count_below}
use Rattle.format.specs.Source.{get_pos_pair}
use Rattle.format.proofs.ListLaws.{by_test}
use Rattle.source_info.specs.Passing.{span, span_from, begins, pos_of, pos_from}

abbrev raw_of : ℕ → ℕ → ℕ → ℕ → List ℕ → Outcome Span
raw_of start left count total ends = ask 5 (ltb left (suc count)) >>= λ _. span (begins start left ends) (min (suc (get_or ends left 0)) total)

abbrev raw_from : ℕ → ℕ → ℕ → List ℕ → Outcome Span
raw_from start i left t = raw_of start left (newlines t) (i + length t) (nl_indices_from i t)

pub ltb-suc : (a b : ℕ) → ltb (suc a) (suc b) ≡ ltb a b
ltb-suc a b =
    by_test (ltb a b)
    (λ t. let h = ltb-true a b t in lt-ltb (suc a) (suc b) (omega arith) ∙ sym t)
    (λ t. let h = ltb-false a b t in le-ltb (suc a) (suc b) (omega arith) ∙ sym t)

-- past a newline one line fewer is to pass
raw_pass : (start i left count total : ℕ) (ends : List ℕ) → raw_of start (suc left) (suc count) total (i ∷ ends)
    ≡ raw_of (suc i) left count total ends
raw_pass start i zero count total ends = rw (ltb-suc 0 (suc count))
raw_pass start i (suc left) count total ends = rw (ltb-suc (suc left) (suc count))

raw_stop : (start i count total : ℕ) (ends : List ℕ) → suc i ≤ total → raw_of start 0 count total (i ∷ ends) ≡ span start (suc i)
raw_stop start i count total ends h = rw (lt-ltb 0 (suc count) (omega arith), min-eq_left h)

module _ (start i left b : ℕ) (bs : List ℕ) where
  raw_yes : b ≡ 10 → raw_from start i left (b ∷ bs) ≡ raw_of start left (suc (newlines bs)) (i + suc (length bs))
      (i ∷ nl_indices_from (suc i) bs)
  unfolding newlines nl_indices_from
  raw_yes e = simp (eq-eqb b 10 e)

  raw_no : (b ≡ 10 → ⊥) → raw_from start i left (b ∷ bs) ≡ raw_from start (suc i) left bs
  unfolding newlines nl_indices_from
  raw_no n =
      let e : i + suc (length bs) ≡ suc i + length bs = omega arith in
      simp (ne_eqb b 10 n, e)

raw_agrees : (start i left : ℕ) (t : List ℕ) → span_from start i left t ≡ raw_from start i left t
unfolding span_from newlines nl_indices_from
raw_agrees start i zero [] = let e : min (suc i) (i + 0) ≡ i = min-eq_right (omega arith) ∙ omega arith in ap (span start) (sym e)
raw_agrees start i (suc left) [] = rw (le-ltb (suc left) 1 (omega arith))
raw_agrees start i zero (b ∷ bs) =
    by_test (eqb b 10)
    (λ t. ap (λ (z : Bool). if z then span start (suc i) else span_from start (suc i) zero bs) t
    ∙ sym (raw_yes start i zero b bs (eqb-true b 10 t) ∙ raw_stop start i (suc (newlines bs)) (i + suc (length bs))
    (nl_indices_from (suc i) bs) (omega arith)))
    (λ t. ap (λ (z : Bool). if z then span start (suc i) else span_from start (suc i) zero bs) t ∙ raw_agrees start (suc i) zero bs
    ∙ sym (raw_no start i zero b bs (eqb-false b 10 t)))
raw_agrees start i (suc left) (b ∷ bs) =
    let e : i + suc (length bs) ≡ suc i + length bs = omega arith in
    by_test (eqb b 10)
    (λ t. ap (λ (z : Bool). if z then span_from (suc i) (suc i) left bs else span_from start (suc i) (suc left) bs) t
    ∙ raw_agrees (suc i) (suc i) left bs
    ∙ sym (raw_yes start i (suc left) b bs (eqb-true b 10 t) ∙ raw_pass start i left (newlines bs) (i + suc (length bs))
    (nl_indices_from (suc i) bs)
    ∙ ap (λ n. raw_of (suc i) left (newlines bs) n (nl_indices_from (suc i) bs)) e))
    (λ t. ap (λ (z : Bool). if z then span_from (suc i) (suc i) left bs else span_from start (suc i) (suc left) bs) t
    ∙ raw_agrees start (suc i) (suc left) bs ∙ sym (raw_no start i (suc left) b bs (eqb-false b 10 t)))

pub span-start : (s : List ℕ) (line : ℕ) → span_from 0 0 line s ≡ raw_line_span s line
unfolding raw_line_span line_count nl_indices
span-start s line = raw_agrees 0 0 line s ∙ go line
  where
    go : (line : ℕ) → raw_from 0 0 line s ≡ raw_line_span s line
    go zero = rw (zero-add (length s))
    go (suc line) = rw (zero-add (length s))

cons-other : (start i left b : ℕ) (bs : List ℕ) → (b ≡ 10 → ⊥) → span_from start i left (b ∷ bs) ≡ span_from start (suc i) left bs
unfolding span_from
cons-other start i zero b bs n = rw (ne_eqb b 10 n)
cons-other start i (suc left) b bs n = rw (ne_eqb b 10 n)

cons_stop : (start i left b : ℕ) (bs : List ℕ) → b ≡ 10 → left ≡ 0 → span_from start i left (b ∷ bs) ≡ span start (suc i)
unfolding span_from
cons_stop start i zero b bs e z = rw (eq-eqb b 10 e)
cons_stop start i (suc left) b bs e z = absurd (omega arith)

cons_pass : (start i left b : ℕ) (bs : List ℕ) → b ≡ 10 → (left ≡ 0 → ⊥) → span_from start i left (b ∷ bs)
    ≡ span_from (suc i) (suc i) (left - 1) bs
unfolding span_from
cons_pass start i zero b bs e n = absurd (n refl)
cons_pass start i (suc left) b bs e n = let q : left ≡ suc left - 1 = omega arith in rw (eq-eqb b 10 e)
    (ap (λ k. span_from (suc i) (suc i) k bs) q)

-- a turn of the loop
module _ (start i left : ℕ) (s : List ℕ) (h : i < length s) where
  here : span_from start i left (drop i s) ≡ span_from start i left (get_or s i 0 ∷ drop (suc i) s)
  here = ap (span_from start i left) (drop-cons s i 0 h)

  pub span-other : (get_or s i 0 ≡ 10 → ⊥) → span_from start (i + 1) left (drop (i + 1) s) ≡ span_from start i left (drop i s)
  span-other n = ap (λ k. span_from start k left (drop k s)) (add-one i)
      ∙ sym (here ∙ cons-other start i left (get_or s i 0) (drop (suc i) s) n)

  pub span_pass : get_or s i 0 ≡ 10 → (left ≡ 0 → ⊥) → span_from (i + 1) (i + 1) (left - 1) (drop (i + 1) s) ≡ span_from start i left (drop i s)
  span_pass e n = ap (λ k. span_from k k (left - 1) (drop k s)) (add-one i)
      ∙ sym (here ∙ cons_pass start i left (get_or s i 0) (drop (suc i) s) e n)

  pub span_stop : get_or s i 0 ≡ 10 → left ≡ 0 → span start (i + 1) ≡ span_from start i left (drop i s)
  span_stop e z = ap (span start) (add-one i) ∙ sym (here ∙ cons_stop start i left (get_or s i 0) (drop (suc i) s) e z)

module _ (start i left : ℕ) (s : List ℕ) (h : length s ≡ i) where
  pub span-end : left ≡ 0 → span start i ≡ span_from start i left (drop i s)
  unfolding span_from
  span-end z = sym (ap (span_from start i left) (drop_of_length-le s (let q : length s ≤ i = omega arith in q))
      ∙ ap (λ k. span_from start i k []) z)

  pub span-past : (left ≡ 0 → ⊥) → refused 5 ≡ span_from start i left (drop i s)
  unfolding span_from
  span-past n = sym (ap (span_from start i left) (drop_of_length-le s (let q : length s ≤ i = omega arith in q)) ∙ go left n)
    where
      go : (left : ℕ) → (left ≡ 0 → ⊥) → span_from start i left [] ≡ refused 5
      go zero n = absurd (n refl)
      go (suc left) n = refl

none_below : (index i : ℕ) (t : List ℕ) → index ≤ i → count_below index (nl_indices_from i t) ≡ 0
unfolding count_below nl_indices_from
none_below index i [] h = rw (le-ltb i index h)
none_below index i (b ∷ bs) h =
    by_test (eqb b 10) (λ e. rw (e, le-ltb i index h) (none_below index (suc i) bs (omega arith)))
    (λ e. rw e (none_below index (suc i) bs (omega arith)))

pub pos_start : (index : ℕ) (s : List ℕ) → pos_from index 0 0 0 s ≡ get_pos_pair s index
unfolding get_pos_pair line_count nl_indices
pos_start index s = go (count_below index (nl_indices_from 0 s))
  where
    go : (k : ℕ) → pos_of index 0 0 k (newlines s) (nl_indices_from 0 s)
        ≡ record { line = k; column = if ltb k (suc (newlines s)) then index - line_start s k else index }
    go zero = refl
    go (suc k) = rw (zero-add (suc k))

pub pos_stop : (index line start i : ℕ) (t : List ℕ) → index ≤ i → record { line = line; column = index - start }
    ≡ pos_from index line start i t
pos_stop index line start i t h =
    sym (ap (λ k. pos_of index line start k (newlines t) (nl_indices_from i t)) (none_below index i t h)
    ∙ rw (lt-ltb 0 (suc (newlines t)) (omega arith), add-zero line))

pos_pass : (index line start i k count : ℕ) (ends : List ℕ) → pos_of index line start (suc k) (suc count) (i ∷ ends)
    ≡ pos_of index (line + 1) (suc i) k count ends
pos_pass index line start i zero count ends = let e : line + 1
    ≡ line + 1 + 0 = omega arith in rw (ltb-suc 0 (suc count))
    (ap (λ n. record { line = n; column = if ltb 0 (suc count) then index - suc i else index }) e)
pos_pass index line start i (suc k) count ends =
    let e : line + suc (suc k) ≡ line + 1 + suc k = omega arith in
    rw (ltb-suc (suc k) (suc count)) (ap (λ n. record {
      line = n;
      column = if ltb (suc k) (suc count) then index - suc (get_or ends k 0)
          else index;
    }) e)

-- line ends and newlines at a byte
module _ (b i : ℕ) (bs : List ℕ) where
  ends-yes : b ≡ 10 → nl_indices_from i (b ∷ bs) ≡ i ∷ nl_indices_from (suc i) bs
  unfolding nl_indices_from
  ends-yes e = rw (eq-eqb b 10 e)

  ends_no : (b ≡ 10 → ⊥) → nl_indices_from i (b ∷ bs) ≡ nl_indices_from (suc i) bs
  unfolding nl_indices_from
  ends_no n = rw (ne_eqb b 10 n)

  more_yes : b ≡ 10 → newlines (b ∷ bs) ≡ suc (newlines bs)
  unfolding newlines
  more_yes e = rw (eq-eqb b 10 e)

  more_no : (b ≡ 10 → ⊥) → newlines (b ∷ bs) ≡ newlines bs
  unfolding newlines
  more_no n = rw (ne_eqb b 10 n)

abbrev pos_at : ℕ → ℕ → ℕ → List ℕ → ℕ → Position
pos_at index line start ends count = pos_of index line start (count_below index ends) count ends

below_yes : (index i : ℕ) (ends : List ℕ) → i < index → count_below index (i ∷ ends) ≡ suc (count_below index ends)
unfolding count_below
below_yes index i ends h = rw (lt-ltb i index h)

module _ (index line start i : ℕ) (s : List ℕ) (h : i < length s) where
  pos_here : pos_from index line start i (drop i s) ≡ pos_from index line start i (get_or s i 0 ∷ drop (suc i) s)
  pos_here = ap (pos_from index line start i) (drop-cons s i 0 h)

  pub pos_other : (get_or s i 0 ≡ 10 → ⊥) → pos_from index line start (i + 1) (drop (i + 1) s) ≡ pos_from index line start i (drop i s)
  pos_other n = ap (λ k. pos_from index line start k (drop k s)) (add-one i) ∙ sym (pos_here ∙ go)
    where
      b : ℕ
      b = get_or s i 0

      bs : List ℕ
      bs = drop (suc i) s

      go : pos_from index line start i (b ∷ bs) ≡ pos_from index line start (suc i) bs
      go = ap (λ es. pos_at index line start es (newlines (b ∷ bs))) (ends_no b i bs n)
          ∙ ap (pos_at index line start (nl_indices_from (suc i) bs)) (more_no b i bs n)

  pub pos_next : get_or s i 0 ≡ 10 → i < index → pos_from index (line + 1) (i + 1) (i + 1) (drop (i + 1) s)
      ≡ pos_from index line start i (drop i s)
  pos_next e l = ap (λ k. pos_from index (line + 1) k k (drop k s)) (add-one i) ∙ sym (pos_here ∙ go)
    where
      b : ℕ
      b = get_or s i 0

      bs : List ℕ
      bs = drop (suc i) s

      go : pos_from index line start i (b ∷ bs) ≡ pos_from index (line + 1) (suc i) (suc i) bs
      go =
          ap (λ es. pos_at index line start es (newlines (b ∷ bs))) (ends-yes b i bs e)
          ∙ ap (pos_at index line start (i ∷ nl_indices_from (suc i) bs)) (more_yes b i bs e)
          ∙ ap (λ k. pos_of index line start k (suc (newlines bs)) (i ∷ nl_indices_from (suc i) bs))
          (below_yes index i (nl_indices_from (suc i) bs) l)
          ∙ pos_pass index line start i (count_below index (nl_indices_from (suc i) bs)) (newlines bs) (nl_indices_from (suc i) bs)

pub pos_past : (index line start i : ℕ) (s : List ℕ) → length s ≤ i → i < index → record { line = line + 1; column = index }
    ≡ pos_from index line start i (drop i s)
unfolding count_below nl_indices_from newlines
pos_past index line start i s h l = sym (ap (pos_from index line start i) (drop_of_length-le s h)
    ∙ ap (λ k. pos_of index line start k 0 (i ∷ [])) (below_yes index i [] l))

-- a text's byte by its place in the words
