-- How large the number is that digits stand for, and one digit more below the others, over the width. Assumes nothing.
use mathlib.Core.Path.{◌≡◌, sym, ap, subst, subst₂, ◌∙◌}
use mathlib.Core.List.{List, [], ◌∷◌}
use Prim.Native.Nat.{ℕ, zero, suc, ◌+◌, ◌*◌, ◌^◌, ◌≤◌, ◌<◌}
use native.Mathlib.Nat.{pow-zero, pow-suc, mul_comm, add_comm, lt_of_lt_of_le, pow-le-pow_right}
use native.Mathlib.Omega.{arith}
use lib.ListN.{length, take, drop, get_or, length-drop, length-take}
use lib.Seq.{drop-cons, get_or-drop}
use lib.Arith.{digits_lt}
use lib.Pow.{pow_pos}
use Rattle.format.specs.Digits.{value_of}
use Rattle.format.proofs.Laws.{AllBelow}

-- of elements that are all below a bound, at every place
pub below_get_d : (b : ℕ) (ds : List ℕ) → ((i : ℕ) → get_or ds i 0 < b) → AllBelow b ds
below_get_d b [] h = tt
below_get_d b (d ∷ ds) h = (h 0, below_get_d b ds (λ i. h (suc i)))

pub below_take : (b n : ℕ) (ds : List ℕ) → AllBelow b ds → AllBelow b (take n ds)
below_take b zero ds l = tt
below_take b (suc n) [] l = tt
below_take b (suc n) (d ∷ ds) l = (l.0, below_take b n ds l.1)

module _ (k : ℕ) where
  value_below : (ds : List ℕ) → AllBelow (2 ^ k) ds → value_of k ds < (2 ^ k) ^ length ds
  unfolding value_of
  value_below [] l = subst (λ (m : ℕ). 0 < m) (sym (pow-zero (2 ^ k))) (omega arith)
  value_below (d ∷ ds) l =
      subst₂ (λ (x y : ℕ). x < y)
      (ap (λ (m : ℕ). m + d) (mul_comm (value_of k ds) (2 ^ k)) ∙ add_comm (2 ^ k * value_of k ds) d)
      (sym (pow-suc (2 ^ k) (length ds)))
      (digits_lt (value_below ds l.1) l.0)

  -- n digits say a number below the n-th power
  pub value_lt : (n : ℕ) (ds : List ℕ) → AllBelow (2 ^ k) ds → length ds ≤ n → value_of k ds < (2 ^ k) ^ n
  value_lt n ds l h = lt_of_lt_of_le (value_below ds l) (pow-le-pow_right (pow_pos k) h)

  module _ (n : ℕ) (s : List ℕ) (i : ℕ) (l : (j : ℕ) → get_or s j 0 < 2 ^ k) where
    -- the digits from a place on, of which there are n at most
    pub value-drop_lt : length s ≤ i + n → value_of k (drop i s) < (2 ^ k) ^ n
    value-drop_lt h = value_lt n (drop i s) (below_get_d (2 ^ k) (drop i s) (λ j. rw get_or-drop (l (i + j)))) (rw length-drop (omega arith))

    -- n digits at a place
    pub value_at_lt : value_of k (take n (drop i s)) < (2 ^ k) ^ n
    value_at_lt =
        value_lt n (take n (drop i s)) (below_take (2 ^ k) n (drop i s) (below_get_d (2 ^ k) (drop i s) (λ j. rw get_or-drop (l (i + j)))))
        (rw length-take (omega arith))

  -- one digit more, below the others
  pub value-more :
      (s : List ℕ) (i v : ℕ) → i < length s → v ≡ value_of k (drop (suc i) s) → v * 2 ^ k + get_or s i 0 ≡ value_of k (drop i s)
  unfolding value_of
  value-more s i v h e =
      rw (drop-cons s i 0, e) (add_comm _ (get_or s i 0) ∙ ap (λ (x : ℕ). get_or s i 0 + x) (mul_comm _ (2 ^ k)))
