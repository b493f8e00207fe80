-- The table's reader takes exactly the texts of the definition: `run_is_utf8`. By the length of the text, row by row of the table.
-- Assumes nothing.
use mathlib.Core.Path.{◌≡◌, refl, sym, ◌∙◌, ap}
use mathlib.Core.Bool.{Bool, true, false, ◌&&◌}
use mathlib.Core.Logic.{◌⊎◌, inl, inr, ⊎_elim}
use mathlib.Core.List.{List, [], ◌∷◌}
use mathlib.Core.Option.{Option, none, some}
use Prim.Native.Nat.{ℕ, zero, suc, ◌+◌, ◌-◌, ◌*◌, ◌^◌, ◌≤◌, ◌<◌}
use native.Mathlib.Nat.{add-mul, mul_assoc, mul-le-mul_right}
use native.Mathlib.Omega.{arith}
use lib.ListN.{length, drop, length-drop}
use lib.Dec.{leb, ltb, eqb}
use borrow.Author.Tests.{lt-ltb, le-ltb, le-leb, lt-leb, ne_eqb, ltb-true, ltb-false, leb-true, leb-false, eqb-true, eqb-false}
use Rattle.std.specs.Prelude.{if◌then◌else◌}
use Rattle.format.specs.Basics.{and_then, is_some}
use Rattle.format.specs.Utf8.{is_utf8, scalars_from, char_at, follow, shortest_form, is_scalar}
use Rattle.format.proofs.ListLaws.{by_test}
use Rattle.format.proofs.Utf8Laws.{char_one, char_middle}
use Rattle.utf8.specs.declared.Utf8.{Utf8}
use Rattle.utf8.specs.Utf8.{step, run, whole, bad, more, is_whole, first_byte}
use Rattle.utf8.proofs.CharLaws.{inside, follow_in, follow_out, scalar-low, scalar-high, not_scalar, char_two, char_three, char_four}
use Rattle.utf8.proofs.CharLaws.{char_over}

both_true : (a b : Bool) → a ≡ true → b ≡ true → (a && b) ≡ true
both_true true b p q = q
both_true false b p q = p

-- by the table
abbrev pub accepts : Utf8 → List ℕ → Bool
accepts u bs = is_whole (run u bs)

step-bad : (b : ℕ) → step bad b ≡ bad
unfolding step
step-bad b = by_test (ltb b 1) (λ e. rw e) (λ e. rw (e, lt-ltb 0 b (let h = ltb-false b 1 e in omega arith)))

accepts_bad : (bs : List ℕ) → accepts bad bs ≡ false
unfolding run
accepts_bad [] = refl
accepts_bad (b ∷ bs) = ap (λ u. accepts u bs) (step-bad b) ∙ accepts_bad bs

accepts_whole : (l h : ℕ) (bs : List ℕ) → accepts (more 0 l h) bs ≡ accepts whole bs
unfolding run step
accepts_whole l h [] = refl
accepts_whole l h (b ∷ bs) = refl

step_in : (n lo hi b : ℕ) → lo ≤ b → b ≤ hi → step (more (suc n) lo hi) b ≡ more n 0x80 0xBF
unfolding step
step_in n lo hi b p q =
    let e : suc n - 1 ≡ n = omega arith in simp (ne_eqb (suc n) 0 (λ z. omega arith), le-ltb b lo p, le-ltb hi b q, e)

step_out : (n lo hi b : ℕ) → (b < lo) ⊎ (hi < b) → step (more (suc n) lo hi) b ≡ bad
unfolding step
step_out n lo hi b (inl p) = simp (ne_eqb (suc n) 0 (λ z. omega arith), lt-ltb b lo p)
step_out n lo hi b (inr q) =
    by_test (ltb b lo) (λ e. simp (ne_eqb (suc n) 0 (λ z. omega arith), e))
    (λ e. simp (ne_eqb (suc n) 0 (λ z. omega arith), e, lt-ltb hi b q))

abbrev passes : Option ℕ → Bool → Bool
passes none t = false
passes (some v) t = t

tail_accepts : (n c : ℕ) (bs : List ℕ) → accepts (more n 0x80 0xBF) bs ≡ passes (follow n c bs) (accepts whole (drop n bs))
unfolding run follow
tail_accepts zero c bs = accepts_whole 0x80 0xBF bs
tail_accepts (suc n) c [] = ne_eqb (suc n) 0 (λ z. omega arith)
tail_accepts (suc n) c (b ∷ bs) =
    inside 0x80 0xBF b
    (λ p q. ap (λ u. accepts u bs) (step_in n 0x80 0xBF b p q) ∙ tail_accepts n (c * 2 ^ 6 + (b - 0x80)) bs
    ∙ ap (λ o. passes o (accepts whole (drop n bs))) (sym (follow_in n c b bs p q)))
    (λ o. ap (λ u. accepts u bs) (step_out n 0x80 0xBF b o) ∙ accepts_bad bs
    ∙ ap (λ r. passes r (accepts whole (drop n bs))) (sym (follow_out n c b bs o)))

-- the value of a character, from its first bits and how many bytes follow
abbrev Spans : ℕ → ℕ → Type 0
Spans k s = (x : ℕ) (bs : List ℕ) (v : ℕ) → follow k x bs ≡ some v → (x * s ≤ v) × (v < x * s + s)

spans_0 : Spans 0 1
unfolding follow
spans_0 x bs v e = let q : x ≡ v = cc in omega arith

-- a byte that follows has six bits
spans-more : (k s : ℕ) → Spans k s → Spans (suc k) (64 * s)
unfolding follow
spans-more k s span x [] v e = let z : ◌≡◌ {A = ℕ} 0 1 = cc in absurd (omega arith)
spans-more k s span x (b ∷ bs) v e =
    inside 0x80 0xBF b
    (λ p q. let d : ℕ = b - 0x80 in
    let h = span (x * 64 + d) bs v (sym (follow_in k x b bs p q) ∙ e) in
    let f : (x * 64 + d) * s ≡ x * (64 * s) + d * s = add-mul (x * 64) d s ∙ ap (λ (n : ℕ). n + d * s) (mul_assoc x 64 s) in
    let l : d * s ≤ 63 * s = mul-le-mul_right s (omega arith) in
    omega arith)
    (λ o. let f = follow_out k x b bs o in let z : ◌≡◌ {A = ℕ} 0 1 = cc in absurd (omega arith))

spans_1 : Spans 1 64
spans_1 = spans-more 0 1 spans_0

spans_2 : Spans 2 4096
spans_2 = spans-more 1 64 spans_1

spans_3 : Spans 3 262144
spans_3 = spans-more 2 4096 spans_2

-- by scalar values
abbrev pub go_on : Option (ℕ × ℕ) → List ℕ → Bool
go_on none bs = false
go_on (some t) bs = is_utf8 (drop t.1 bs)

from-drop : (k : ℕ) (bs : List ℕ) → scalars_from k bs ≡ scalars_from 0 (drop k bs)
unfolding scalars_from
from-drop zero bs = refl
from-drop (suc k) [] = refl
from-drop (suc k) (b ∷ bs) = from-drop k bs

pub first : (b : ℕ) (bs : List ℕ) → is_utf8 (b ∷ bs) ≡ go_on (char_at (b ∷ bs)) bs
unfolding is_utf8 scalars_from is_some
first b bs = go (char_at (b ∷ bs))
  where
    keep : (o : Option (List ℕ)) (c : ℕ) → is_some (and_then o λ cs. some (c ∷ cs)) ≡ is_some o
    keep none c = refl
    keep (some cs) c = refl

    go : (o : Option (ℕ × ℕ)) → is_some (and_then o λ c. and_then (scalars_from c.1 bs) λ cs. some (c.0 ∷ cs)) ≡ go_on o bs
    go none = refl
    go (some c) = keep (scalars_from c.1 bs) c.0 ∙ ap is_some (from-drop c.1 bs)

abbrev Good : ℕ → ℕ → Bool → Type 0
Good least v t = (leb least v && is_scalar v) ≡ t

full-yes : (least m : ℕ) (o : Option ℕ) (bs : List ℕ) → ((v : ℕ) → o ≡ some v → Good least v true)
    → go_on (shortest_form least m o) bs ≡ passes o (is_utf8 (drop m bs))
full-yes least m none bs h = refl
full-yes least m (some v) bs h = rw (h v refl)

full_no : (least m : ℕ) (o : Option ℕ) (bs : List ℕ) → ((v : ℕ) → o ≡ some v → Good least v false)
    → go_on (shortest_form least m o) bs ≡ false
full_no least m none bs h = refl
full_no least m (some v) bs h = rw (h v refl)

small : (least v : ℕ) → v < least → Good least v false
small least v h = rw (lt-leb least v h)

no_scalar : (least v : ℕ) → is_scalar v ≡ false → Good least v false
no_scalar least v e = by_test (leb least v) (λ a. rw (a, e)) (λ a. rw a)

-- a row of the table: k bytes follow the second, whose range is lo to hi
module _ (n : ℕ) (ih : (cs : List ℕ) → length cs ≤ n → is_utf8 cs ≡ accepts whole cs) (b : ℕ) (bs : List ℕ) (short : length bs ≤ n) where
  abbrev Same : Type 0
  Same = is_utf8 (b ∷ bs) ≡ accepts whole (b ∷ bs)

  start : (u : Utf8) → first_byte b ≡ u → accepts whole (b ∷ bs) ≡ accepts u bs
  unfolding run step
  start u e = ap (λ v. accepts v bs) e

  row_one : first_byte b ≡ whole → char_at (b ∷ bs) ≡ some (b, 0) → Same
  row_one e c = first b bs ∙ ap (λ o. go_on o bs) c ∙ ih bs short ∙ sym (start whole e)

  row-none : first_byte b ≡ bad → char_at (b ∷ bs) ≡ none → Same
  row-none e c = first b bs ∙ ap (λ o. go_on o bs) c ∙ sym (start bad e ∙ accepts_bad bs)

  row-bad : (m least f : ℕ) → first_byte b ≡ bad → char_at (b ∷ bs) ≡ shortest_form least m (follow m f bs)
      → ((v : ℕ) → follow m f bs ≡ some v → Good least v false) → Same
  row-bad m least f e c h = first b bs ∙ ap (λ o. go_on o bs) c ∙ full_no least m (follow m f bs) bs h ∙ sym (start bad e ∙ accepts_bad bs)

  row : (k s least lo hi f : ℕ) → Spans k s → 0x80 ≤ lo → hi ≤ 0xBF
      → ((c v : ℕ) → lo ≤ c → c ≤ hi → (f * 2 ^ 6 + (c - 0x80)) * s ≤ v → v < (f * 2 ^ 6 + (c - 0x80)) * s + s → Good least v true)
      → ((c v : ℕ) → 0x80 ≤ c → c ≤ 0xBF → (c < lo) ⊎ (hi < c) → (f * 2 ^ 6 + (c - 0x80)) * s ≤ v → v < (f * 2 ^ 6 + (c - 0x80)) * s + s
      → Good least v false)
      → first_byte b ≡ more (suc k) lo hi → char_at (b ∷ bs) ≡ shortest_form least (suc k) (follow (suc k) f bs) → Same
  unfolding run follow
  row k s least lo hi f span low high pass fail e c = first b bs ∙ ap (λ o. go_on o bs) c ∙ go bs short ∙ sym (start (more (suc k) lo hi) e)
    where
      go : (bs : List ℕ) → length bs ≤ n → go_on (shortest_form least (suc k) (follow (suc k) f bs)) bs ≡ accepts (more (suc k) lo hi) bs
      go [] h = sym (ne_eqb (suc k) 0 (λ z. omega arith))
      go (x ∷ xs) h =
          inside lo hi x
          (λ p q. let fe = follow_in k f x xs (omega arith) (omega arith) in
          ap (λ o. go_on (shortest_form least (suc k) o) (x ∷ xs)) fe
          ∙ full-yes least (suc k) (follow k (f * 2 ^ 6 + (x - 0x80)) xs) (x ∷ xs)
          (λ v g. let w = span (f * 2 ^ 6 + (x - 0x80)) xs v g in pass x v p q w.0 w.1)
          ∙ ap (passes (follow k (f * 2 ^ 6 + (x - 0x80)) xs)) (ih (drop k xs) (omega (arith, length-drop k xs)))
          ∙ sym (ap (λ u. accepts u xs) (step_in k lo hi x p q) ∙ tail_accepts k (f * 2 ^ 6 + (x - 0x80)) xs))
          (λ o. inside 0x80 0xBF x
          (λ p q. ap (λ r. go_on (shortest_form least (suc k) r) (x ∷ xs)) (follow_in k f x xs p q)
          ∙ full_no least (suc k) (follow k (f * 2 ^ 6 + (x - 0x80)) xs) (x ∷ xs)
          (λ v g. let w = span (f * 2 ^ 6 + (x - 0x80)) xs v g in fail x v p q o w.0 w.1))
          (λ r. ap (λ r. go_on (shortest_form least (suc k) r) (x ∷ xs)) (follow_out k f x xs r))
          ∙ sym (ap (λ u. accepts u xs) (step_out k lo hi x o) ∙ accepts_bad xs))

  two : 0x80 ≤ b → 0xC2 ≤ b → b < 0xE0 → first_byte b ≡ more 1 0x80 0xBF → Same
  two h k l e =
      row 0 1 0x80 0x80 0xBF (b - 0xC0) spans_0 (omega arith) (omega arith)
      (λ c v p q r t. both_true (leb 0x80 v) (is_scalar v) (le-leb 0x80 v (omega arith)) (scalar-low v (omega arith)))
      (λ c v p q o r t. absurd (⊎_elim (λ a. omega arith) (λ a. omega arith) o))
      e (char_two b bs (omega arith) (omega arith))

  three : (lo hi : ℕ) → 0xE0 ≤ b → b < 0xF0 → 0x80 ≤ lo → hi ≤ 0xBF
      → ((c v : ℕ) → lo ≤ c → c ≤ hi → ((b - 0xE0) * 2 ^ 6 + (c - 0x80)) * 64 ≤ v → v < ((b - 0xE0) * 2 ^ 6 + (c - 0x80)) * 64 + 64 → Good
      0x800 v true)
      → ((c v : ℕ) → 0x80 ≤ c → c ≤ 0xBF → (c < lo) ⊎ (hi < c) → ((b - 0xE0) * 2 ^ 6 + (c - 0x80)) * 64 ≤ v → v <
      ((b - 0xE0) * 2 ^ 6 + (c - 0x80)) * 64 + 64 → Good 0x800 v false)
      → first_byte b ≡ more 2 lo hi → Same
  three lo hi h k low high pass fail e = row 1 64 0x800 lo hi (b - 0xE0) spans_1 low high pass fail e (char_three b bs h (omega arith))

  four : (lo hi : ℕ) → 0xF0 ≤ b → b ≤ 0xF4 → 0x80 ≤ lo → hi ≤ 0xBF
      → ((c v : ℕ) → lo ≤ c → c ≤ hi → ((b - 0xF0) * 2 ^ 6 + (c - 0x80)) * 4096 ≤ v → v < ((b - 0xF0) * 2 ^ 6 + (c - 0x80)) * 4096 + 4096
      → Good 0x10000 v true)
      → ((c v : ℕ) → 0x80 ≤ c → c ≤ 0xBF → (c < lo) ⊎ (hi < c) → ((b - 0xF0) * 2 ^ 6 + (c - 0x80)) * 4096 ≤ v → v <
      ((b - 0xF0) * 2 ^ 6 + (c - 0x80)) * 4096 + 4096 → Good 0x10000 v false)
      → first_byte b ≡ more 3 lo hi → Same
  four lo hi h k low high pass fail e = row 2 4096 0x10000 lo hi (b - 0xF0) spans_2 low high pass fail e (char_four b bs h (omega arith))

  -- the rows, in the table's order
  rows-two : 0x80 ≤ b → b < 0xE0 → Same
  unfolding first_byte
  rows-two h l =
      by_test (ltb b 0xC2)
      (λ t. let k = ltb-true b 0xC2 t in
      let e : first_byte b ≡ bad = simp (le-ltb b 0x80 h, t) in
      by_test (ltb b 0xC0)
      (λ g. row-none e (char_middle b bs h (ltb-true b 0xC0 g)))
      (λ g. let m = ltb-false b 0xC0 g in
      row-bad 1 0x80 (b - 0xC0) e (char_two b bs m (omega arith)) (λ v q. let w = spans_1 (b - 0xC0) bs v q in small 0x80 v (omega arith))))
      (λ t. let k = ltb-false b 0xC2 t in two h k l (simp (le-ltb b 0x80 h, t, lt-ltb b 0xE0 l)))

  rows-three : 0xE0 ≤ b → b < 0xF0 → Same
  unfolding first_byte
  rows-three h l =
      let a = le-ltb b 0x80 (omega arith) in
      let d = le-ltb b 0xC2 (omega arith) in
      let g = le-ltb b 0xE0 h in
      by_test (eqb b 0xE0)
      (λ t. let k = eqb-true b 0xE0 t in
      three 0xA0 0xBF h l (omega arith) (omega arith)
      (λ c v p q r s. both_true (leb 0x800 v) (is_scalar v) (le-leb 0x800 v (omega arith)) (scalar-low v (omega arith)))
      (λ c v p q o r s. ⊎_elim (λ y. small 0x800 v (omega arith)) (λ y. absurd (omega arith)) o)
      (simp (a, d, g, t)))
      (λ t. let nk = eqb-false b 0xE0 t in
      by_test (eqb b 0xED)
      (λ t2. let k = eqb-true b 0xED t2 in
      three 0x80 0x9F h l (omega arith) (omega arith)
      (λ c v p q r s. both_true (leb 0x800 v) (is_scalar v) (le-leb 0x800 v (omega arith)) (scalar-low v (omega arith)))
      (λ c v p q o r s. ⊎_elim (λ y. absurd (omega arith)) (λ y. no_scalar 0x800 v (not_scalar v (omega arith) (inl (omega arith)))) o)
      (simp (a, d, g, t, t2)))
      (λ t2. let nk2 = eqb-false b 0xED t2 in
      three 0x80 0xBF h l (omega arith) (omega arith)
      (λ c v p q r s. both_true (leb 0x800 v) (is_scalar v) (le-leb 0x800 v (omega arith))
      (by_test (ltb b 0xED) (λ y. let m = ltb-true b 0xED y in scalar-low v (omega arith))
      (λ y. let m = ltb-false b 0xED y in scalar-high v (omega arith) (omega arith))))
      (λ c v p q o r s. absurd (⊎_elim (λ y. omega arith) (λ y. omega arith) o))
      (simp (a, d, g, t, t2, lt-ltb b 0xF0 l))))

  rows_four : 0xF0 ≤ b → Same
  unfolding first_byte
  rows_four h =
      let a = le-ltb b 0x80 (omega arith) in
      let d = le-ltb b 0xC2 (omega arith) in
      let g = le-ltb b 0xE0 (omega arith) in
      let j = ne_eqb b 0xE0 (λ z. omega arith) in
      let m = ne_eqb b 0xED (λ z. omega arith) in
      let i = le-ltb b 0xF0 h in
      by_test (eqb b 0xF0)
      (λ t. let k = eqb-true b 0xF0 t in
      four 0x90 0xBF h (omega arith) (omega arith) (omega arith)
      (λ c v p q r s. both_true (leb 0x10000 v) (is_scalar v) (le-leb 0x10000 v (omega arith)) (scalar-high v (omega arith) (omega arith)))
      (λ c v p q o r s. ⊎_elim (λ y. small 0x10000 v (omega arith)) (λ y. absurd (omega arith)) o)
      (simp (a, d, g, j, m, i, t)))
      (λ t. let nk = eqb-false b 0xF0 t in
      by_test (ltb b 0xF4)
      (λ t2. let k = ltb-true b 0xF4 t2 in
      four 0x80 0xBF h (omega arith) (omega arith) (omega arith)
      (λ c v p q r s. both_true (leb 0x10000 v) (is_scalar v) (le-leb 0x10000 v (omega arith)) (scalar-high v (omega arith) (omega arith)))
      (λ c v p q o r s. absurd (⊎_elim (λ y. omega arith) (λ y. omega arith) o))
      (simp (a, d, g, j, m, i, t, t2)))
      (λ t2. let nk2 = ltb-false b 0xF4 t2 in
      by_test (eqb b 0xF4)
      (λ t3. let k = eqb-true b 0xF4 t3 in
      four 0x80 0x8F h (omega arith) (omega arith) (omega arith)
      (λ c v p q r s. both_true (leb 0x10000 v) (is_scalar v) (le-leb 0x10000 v (omega arith)) (scalar-high v (omega arith) (omega arith)))
      (λ c v p q o r s. ⊎_elim (λ y. absurd (omega arith)) (λ y. no_scalar 0x10000 v (not_scalar v (omega arith) (inr (omega arith)))) o)
      (simp (a, d, g, j, m, i, t, t2, t3)))
      (λ t3. let nk3 = eqb-false b 0xF4 t3 in
      let e : first_byte b ≡ bad = simp (a, d, g, j, m, i, t, t2, t3) in
      by_test (leb b 0xF7)
      (λ y. let k = leb-true b 0xF7 y in
      row-bad 3 0x10000 (b - 0xF0) e (char_four b bs h k)
      (λ v q. let w = spans_3 (b - 0xF0) bs v q in no_scalar 0x10000 v (not_scalar v (omega arith) (inr (omega arith)))))
      (λ y. row-none e (char_over b bs (leb-false b 0xF7 y))))))

  same : Same
  unfolding first_byte
  same =
      by_test (ltb b 0x80)
      (λ t. row_one (simp t) (char_one b bs (ltb-true b 0x80 t)))
      (λ t. let h = ltb-false b 0x80 t in
      by_test (ltb b 0xE0)
      (λ t2. rows-two h (ltb-true b 0xE0 t2))
      (λ t2. by_test (ltb b 0xF0) (λ t3. rows-three (ltb-false b 0xE0 t2) (ltb-true b 0xF0 t3)) (λ t3. rows_four (ltb-false b 0xF0 t3))))

turn : (n : ℕ) → ((cs : List ℕ) → length cs ≤ n → is_utf8 cs ≡ accepts whole cs) → (bs : List ℕ) → length bs ≤ suc n → is_utf8 bs ≡ accepts
    whole bs
unfolding is_utf8 scalars_from is_some run
turn n ih [] h = refl
turn n ih (b ∷ bs) h = same n ih b bs (omega arith)

nothing_left : (bs : List ℕ) → length bs ≤ 0 → is_utf8 bs ≡ accepts whole bs
unfolding is_utf8 scalars_from is_some run
nothing_left [] h = refl
nothing_left (b ∷ bs) h = absurd (omega arith)

agree : (n : ℕ) (bs : List ℕ) → length bs ≤ n → is_utf8 bs ≡ accepts whole bs
agree zero = nothing_left
agree (suc n) = turn n (agree n)

-- running the table's reader from the start over bytes and asking whether it stands between characters: whether the bytes are UTF-8
pub run_is_utf8 : (bs : List ℕ) → is_whole (run whole bs) ≡ is_utf8 bs
run_is_utf8 bs = sym (agree (length bs) bs (omega arith))

-- THE TABLE'S ROWS of three and of four bytes
module _ (b : ℕ) where
  pub row-three : 0xE0 ≤ b → b < 0xF0
      → first_byte b ≡ (if eqb b 0xE0 then more 2 0xA0 0xBF else if eqb b 0xED then more 2 0x80 0x9F else more 2 0x80 0xBF)
  unfolding first_byte
  row-three h k =
      let x = le-ltb b 0x80 (omega arith) in
      let y = le-ltb b 0xC2 (omega arith) in
      simp (x, y, le-ltb b 0xE0 h, lt-ltb b 0xF0 k)

  pub row-four : 0xF0 ≤ b
      → first_byte b ≡ (if eqb b 0xF0 then more 3 0x90 0xBF else if ltb b 0xF4 then more 3 0x80 0xBF else if eqb b 0xF4 then more 3 0x80 0x8F else bad)
  unfolding first_byte
  row-four h =
      let x = le-ltb b 0x80 (omega arith) in
      let y = le-ltb b 0xC2 (omega arith) in
      let z = le-ltb b 0xE0 (omega arith) in
      let u = ne_eqb b 0xE0 (λ e. omega arith) in
      let v = ne_eqb b 0xED (λ e. omega arith) in
      simp (x, y, z, u, v, le-ltb b 0xF0 h)
