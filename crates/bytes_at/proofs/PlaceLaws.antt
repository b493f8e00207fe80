-- Numbers and bytes at places, clipped to the input. Assumes nothing.
use mathlib.Core.Path.{◌≡◌, refl, sym, ap, ◌∙◌}
use mathlib.Core.List.{List, [], ◌∷◌}
use Prim.Native.Nat.{ℕ, zero, suc, ◌+◌, ◌-◌, ◌*◌, ◌^◌, ◌≤◌, ◌<◌, min}
use native.Mathlib.Nat.{pow-zero, pow-suc, lt_of_lt_of_le, pow-le-pow_right}
use native.Mathlib.Omega.{arith}
use lib.ListN.{length, take, drop, get_or, length-drop, length-take, drop_of_length-le}
use lib.Seq.{drop-cons, get_or-drop, take_all, length-take-le}
use Rattle.std.specs.Int.{w16, w64, from_le_bytes}
use Rattle.format.specs.Digits.{value_of}
use Rattle.format.specs.Binary.{bytes_at, number_at}
use lib.Dec.{leb}
use borrow.Author.Tests.{leb-true, leb-false}
use Rattle.format.proofs.ListLaws.{by_test}

-- one byte more, below the others
pub value-more : (s : List ℕ) (k v : ℕ) → k < length s → v ≡ value_of 8 (drop (suc k) s) → v * 256 + get_or s k 0 ≡ value_of 8 (drop k s)
unfolding value_of
value-more s k v h e = rw (drop-cons s k 0, e) (omega arith)

-- bytes say a number below the power
pub value_below : (s : List ℕ) → ((k : ℕ) → get_or s k 0 < 256) → value_of 8 s < 256 ^ length s
unfolding value_of
value_below [] h = rw (pow-zero 256) (omega arith)
value_below (d ∷ ds) h = let i = value_below ds (λ k. h (suc k)) in let j = h 0 in rw (pow-suc 256 (length ds)) (omega arith)

pub value_small : (s : List ℕ) (i : ℕ) → ((k : ℕ) → get_or s k 0 < 256) → length s ≤ i + 7 → value_of 8 (drop i s) < 256 ^ 7
value_small s i h l =
    let d = length-drop i s in
    let e : length (drop i s) ≤ 7 = omega arith in
    let p : 0 < 256 = omega arith in
    lt_of_lt_of_le (value_below (drop i s) (λ k. rw get_or-drop (h (i + k)))) (pow-le-pow_right p e)

-- the bytes between two places are those that are asked for, less what the input does not have
pub bytes-clipped : (s : List ℕ) (a e at n : ℕ) → a ≡ min at (length s) → e ≡ min (a + n) (length s) → take (e - a) (drop a s) ≡ bytes_at at n s
bytes-clipped s a e at n p q =
    by_test (leb at (length s))
    (λ u. let h = leb-true at (length s) u in let i : a ≡ at = omega arith in rw i (by_test (leb (at + n) (length s))
    (λ v. let j = leb-true (at + n) (length s) v in let k : e - at ≡ n = omega arith in rw k refl)
    (λ v. let j = leb-false (at + n) (length s) v in let d = length-drop at s in
    take_all (e - at) (drop at s) (omega arith) ∙ sym (take_all n (drop at s) (omega arith)))))
    (λ u. let h = leb-false at (length s) u in let i : a ≡ length s = omega arith in
    let x : drop a s ≡ [] = drop_of_length-le s {i = a} (omega arith) in
    let y : drop at s ≡ [] = drop_of_length-le s {i = at} (omega arith) in
    rw (x, y) (take_none (e - a) ∙ sym (take_none n)))
  where
    take_none : (m : ℕ) → ◌≡◌ {A = List ℕ} (take m []) []
    take_none zero = refl
    take_none (suc m) = refl

-- COUNTS fit two bytes
pub take_below : (n b : ℕ) (xs : List ℕ) → 0 < b → ((k : ℕ) → get_or xs k 0 < b) → (k : ℕ) → get_or (take n xs) k 0 < b
take_below zero b xs p h k = p
take_below (suc n) b [] p h k = p
take_below (suc n) b (x ∷ xs) p h zero = h 0
take_below (suc n) b (x ∷ xs) p h (suc k) = take_below n b xs p (λ j. h (suc j)) k

pub count_below_lem : (s : List ℕ) (at : ℕ) → ((k : ℕ) → get_or s k 0 < 256) → number_at at 2 s < 65536
count_below_lem s at h =
    let xs : List ℕ = bytes_at at 2 s in
    let l : length xs ≤ 2 = omega (arith, length-take 2 (drop at s)) in
    let p : 0 < 256 = omega arith in
    lt_of_lt_of_le (value_below xs (take_below 2 256 (drop at s) p (λ k. rw get_or-drop (h (at + k))))) (pow-le-pow_right p l)

-- A NUMBER WHOSE BYTES ARE ALL THERE, as std reads it
le_2 : (bs : List ℕ) → length bs ≡ 2 → from_le_bytes w16 bs ≡ value_of 8 bs
unfolding value_of
le_2 (a ∷ b ∷ []) l = omega arith
le_2 [] l = absurd (omega arith)
le_2 (a ∷ []) l = absurd (omega arith)
le_2 (a ∷ b ∷ c ∷ bs) l = absurd (omega arith)

le_8 : (bs : List ℕ) → length bs ≡ 8 → from_le_bytes w64 bs ≡ value_of 8 bs
unfolding value_of
le_8 (a ∷ b ∷ c ∷ d ∷ e ∷ f ∷ g ∷ h ∷ []) l = omega arith
le_8 [] l = absurd (omega arith)
le_8 (a ∷ []) l = absurd (omega arith)
le_8 (a ∷ b ∷ []) l = absurd (omega arith)
le_8 (a ∷ b ∷ c ∷ []) l = absurd (omega arith)
le_8 (a ∷ b ∷ c ∷ d ∷ []) l = absurd (omega arith)
le_8 (a ∷ b ∷ c ∷ d ∷ e ∷ []) l = absurd (omega arith)
le_8 (a ∷ b ∷ c ∷ d ∷ e ∷ f ∷ []) l = absurd (omega arith)
le_8 (a ∷ b ∷ c ∷ d ∷ e ∷ f ∷ g ∷ []) l = absurd (omega arith)
le_8 (a ∷ b ∷ c ∷ d ∷ e ∷ f ∷ g ∷ h ∷ i ∷ bs) l = absurd (omega arith)

-- the first n of the bytes from a place on, where it is clipped to the input
module _ (s : List ℕ) (at o n : ℕ) (e : o ≡ min at (length s)) (h : n ≤ length (drop o s)) where
  chunk_long : (bs : List ℕ) → bs ≡ take n (drop o s) → length bs ≡ n
  chunk_long bs q = ap length q ∙ length-take-le n (drop o s) h

  chunk_value : 0 < n → (bs : List ℕ) → bs ≡ take n (drop o s) → value_of 8 bs ≡ number_at at n s
  chunk_value p bs q =
      let d = length-drop o s in
      let a : o ≡ at = omega arith in
      ap (value_of 8) (q ∙ ap (λ (k : ℕ). take n (drop k s)) a)

-- the bytes from a place on, as a slice's range to its end has them
abbrev tail : List ℕ → ℕ → List ℕ
tail s o = take (length s - o) (drop o s)

tail_drop : (s : List ℕ) (o : ℕ) → tail s o ≡ drop o s
tail_drop s o = let d = length-drop o s in take_all (length s - o) (drop o s) (omega arith)

-- no fewer bytes than are known to be there
pub tail_long : (s : List ℕ) (o n : ℕ) → o + n ≤ length s → length (tail s o) < n → ⊥
tail_long s o n h l =
    let e = ap length (tail_drop s o) in
    let d = length-drop o s in
    omega (arith, e)

pub two_there : (s : List ℕ) (at o : ℕ) (bs : List ℕ) → o ≡ min at (length s) → 2 ≤ length (tail s o) → bs ≡ take 2 (tail s o)
    → from_le_bytes w16 bs ≡ number_at at 2 s
two_there s at o bs e h q =
    let t = tail_drop s o in
    let k : 2 ≤ length (drop o s) = rw t at h in
    let r : bs ≡ take 2 (drop o s) = q ∙ ap (take 2) t in
    le_2 bs (chunk_long s at o 2 e k bs r) ∙ chunk_value s at o 2 e k (omega arith) bs r

pub eight_there : (s : List ℕ) (at o : ℕ) (bs : List ℕ) → o ≡ min at (length s) → 8 ≤ length (tail s o) → bs ≡ take 8 (tail s o)
    → from_le_bytes w64 bs ≡ number_at at 8 s
eight_there s at o bs e h q =
    let t = tail_drop s o in
    let k : 8 ≤ length (drop o s) = rw t at h in
    let r : bs ≡ take 8 (drop o s) = q ∙ ap (take 8) t in
    le_8 bs (chunk_long s at o 8 e k bs r) ∙ chunk_value s at o 8 e k (omega arith) bs r
