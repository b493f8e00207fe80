-- A number of three words. Assumes nothing.
use mathlib.Core.Path.{◌≡◌, refl, sym, ◌∙◌, ap}
use mathlib.Core.Bool.{true, false, ◌&&◌}
use mathlib.Core.List.{List, [], ◌∷◌}
use Prim.Native.Nat.{ℕ, ◌+◌, ◌*◌, ◌/◌, ◌%◌, ◌^◌, ◌≤◌, ◌<◌}
use native.Mathlib.Omega.{arith}
use lib.ListN.{length, get_or}
use lib.Dec.{ltb, eqb}
use borrow.Author.Tests.{ltb-true, ltb-false, eqb-true, eqb-false}
use Rattle.format.specs.Basics.{Outcome, refused, given, ◌>>=◌}
use Rattle.format.specs.Digits.{value_of}
use Rattle.format.specs.Words.{bits_of, number_from, is_head}
use Rattle.object.specs.Bodies.{body_at, are_number}
use Rattle.format.proofs.ListLaws.{by_test, both}
use Rattle.object.proofs.BodyLaws.{body_out, body_stops, body_goes, body_fits}
use Rattle.object.proofs.WordLaws.{bits_given, bits_refused, head-other}

-- a word of kind 6 goes on with a record
six_goes : (w : ℕ) → w / 2 ^ 29 ≡ 6 → is_head w ≡ false
six_goes w e = sym (head-other w (λ z. omega arith)) ∙ rw e

refuse : {A B : Type 0} (o : Outcome A) (f : A → Outcome B) → o ≡ refused 1 → (o >>= f) ≡ refused 1
refuse (refused n) f e = cc
refuse (given a) f e = let z : ◌≡◌ {A = ℕ} 0 1 = cc in absurd (omega arith)

-- too few words
few : (xs : List ℕ) → length xs < 3 → number_from xs ≡ refused 1
unfolding number_from
few [] h = refl
few (a ∷ []) h = refl
few (a ∷ b ∷ []) h = refl
few (a ∷ b ∷ c ∷ xs) h = absurd (omega arith)

module _ (ws : List ℕ) (i : ℕ) where
  pub number-few : length ws < i + 3 → number_from (body_at ws i) ≡ refused 1
  number-few h =
      few (body_at ws i)
      (by_test (ltb (length ws) i)
      (λ t. let l = ltb-true (length ws) i t in omega (arith, ap length (body_out ws i (omega arith))))
      (λ t. let l = ltb-false (length ws) i t in omega (arith, body_fits ws i l)))

-- a word that is none of the number's
bad_1 : (a : ℕ) (xs : List ℕ) → bits_of 6 (2 ^ 24) a ≡ refused 1 → number_from (a ∷ xs) ≡ refused 1
unfolding number_from
bad_1 a [] p = refl
bad_1 a (b ∷ []) p = refl
bad_1 a (b ∷ c ∷ xs) p = rw p

bad_2 : (a b x : ℕ) (xs : List ℕ) → bits_of 6 (2 ^ 24) a ≡ given x → bits_of 6 (2 ^ 24) b ≡ refused 1 → number_from (a ∷ b ∷ xs) ≡ refused 1
unfolding number_from
bad_2 a b x [] p q = refl
bad_2 a b x (c ∷ xs) p q = rw (p, q)

bad_3 : (a b c x y : ℕ) (xs : List ℕ) → bits_of 6 (2 ^ 24) a ≡ given x → bits_of 6 (2 ^ 24) b ≡ given y → bits_of 6 (2 ^ 16) c ≡ refused 1
    → number_from (a ∷ b ∷ c ∷ xs) ≡ refused 1
unfolding number_from
bad_3 a b c x y xs p q r = rw (p, q, r)

good : (a b c x y z : ℕ) (xs : List ℕ) → bits_of 6 (2 ^ 24) a ≡ given x → bits_of 6 (2 ^ 24) b ≡ given y → bits_of 6 (2 ^ 16) c ≡ given z
    → number_from (a ∷ b ∷ c ∷ xs) ≡ given (x + 0x100_0000 * y + 0x1_0000_0000_0000 * z, xs)
unfolding number_from value_of
good a b c x y z xs p q r =
    let e : x + 2 ^ 24 * (y + 2 ^ 24 * (z + 2 ^ 24 * 0)) ≡ x + 0x100_0000 * y + 0x1_0000_0000_0000 * z = omega arith in
    simp (p, q, r, e)

wide-given : (w : ℕ) → w / 2 ^ 24 ≡ 0xC0 → bits_of 6 (2 ^ 24) w ≡ given (w % 2 ^ 24)
wide-given w e = let v : w % 2 ^ 29 ≡ w % 2 ^ 24 = omega arith in bits_given 6 (2 ^ 24) w (omega arith) (omega arith) ∙ ap given v

wide-refused : (w : ℕ) → (w / 2 ^ 24 ≡ 0xC0 → ⊥) → bits_of 6 (2 ^ 24) w ≡ refused 1
wide-refused w n = bits_refused 6 (2 ^ 24) w (λ p q. n (omega arith))

last-given : (w : ℕ) → w / 2 ^ 16 ≡ 0xC000 → bits_of 6 (2 ^ 16) w ≡ given (w % 2 ^ 16)
last-given w e = let v : w % 2 ^ 29 ≡ w % 2 ^ 16 = omega arith in bits_given 6 (2 ^ 16) w (omega arith) (omega arith) ∙ ap given v

last-refused : (w : ℕ) → (w / 2 ^ 16 ≡ 0xC000 → ⊥) → bits_of 6 (2 ^ 16) w ≡ refused 1
last-refused w n = bits_refused 6 (2 ^ 16) w (λ p q. n (omega arith))

-- the three words by their places
module _ (ws : List ℕ) (i : ℕ) (h : i + 3 ≤ length ws) where
  abbrev a : ℕ
  a = get_or ws i 0

  abbrev b : ℕ
  b = get_or ws (i + 1) 0

  abbrev c : ℕ
  c = get_or ws (i + 2) 0

  -- the word at a place stands first in what goes on there, or nothing does
  at_place : (j : ℕ) → j < length ws → (k : List ℕ → Outcome (ℕ × List ℕ)) → k [] ≡ refused 1 → k (get_or ws j 0 ∷ body_at ws (j + 1))
      ≡ refused 1 → k (body_at ws j) ≡ refused 1
  at_place j l k e f = by_test (is_head (get_or ws j 0)) (λ t. ap k (body_stops ws j l t) ∙ e) (λ t. ap k (body_goes ws j l t) ∙ f)

  pub number_1 : (a / 2 ^ 24 ≡ 0xC0 → ⊥) → number_from (body_at ws i) ≡ refused 1
  number_1 n = at_place i (omega arith) number_from (few [] (omega arith)) (bad_1 a (body_at ws (i + 1)) (wide-refused a n))

  two : i + 1 + 1 ≡ i + 2
  two = omega arith

  body_1 : a / 2 ^ 24 ≡ 0xC0 → body_at ws i ≡ a ∷ body_at ws (i + 1)
  body_1 e = body_goes ws i (omega arith) (six_goes a (omega arith))

  body_2 : b / 2 ^ 24 ≡ 0xC0 → body_at ws (i + 1) ≡ b ∷ body_at ws (i + 2)
  body_2 e = body_goes ws (i + 1) (omega arith) (six_goes b (omega arith)) ∙ ap (λ n. b ∷ body_at ws n) two

  body_3 : c / 2 ^ 16 ≡ 0xC000 → body_at ws (i + 2) ≡ c ∷ body_at ws (i + 3)
  body_3 e = let q : i + 2 + 1 ≡ i + 3 = omega arith in body_goes ws (i + 2) (omega arith) (six_goes c (omega arith))
      ∙ ap (λ n. c ∷ body_at ws n) q

  pub number_2 : a / 2 ^ 24 ≡ 0xC0 → (b / 2 ^ 24 ≡ 0xC0 → ⊥) → number_from (body_at ws i) ≡ refused 1
  number_2 e n =
      ap number_from (body_1 e)
      ∙ at_place (i + 1) (omega arith) (λ xs. number_from (a ∷ xs)) (few (a ∷ []) (omega arith))
      (bad_2 a b (a % 2 ^ 24) (body_at ws (i + 1 + 1)) (wide-given a e) (wide-refused b n))

  pub number_3 : a / 2 ^ 24 ≡ 0xC0 → b / 2 ^ 24 ≡ 0xC0 → (c / 2 ^ 16 ≡ 0xC000 → ⊥) → number_from (body_at ws i) ≡ refused 1
  number_3 e f n =
      ap number_from (body_1 e ∙ ap (λ xs. a ∷ xs) (body_2 f))
      ∙ at_place (i + 2) (omega arith) (λ xs. number_from (a ∷ b ∷ xs)) (few (a ∷ b ∷ []) (omega arith))
      (bad_3 a b c (a % 2 ^ 24) (b % 2 ^ 24) (body_at ws (i + 2 + 1)) (wide-given a e) (wide-given b f) (last-refused c n))

  pub number-there : a / 2 ^ 24 ≡ 0xC0 → b / 2 ^ 24 ≡ 0xC0 → c / 2 ^ 16 ≡ 0xC000
      → number_from (body_at ws i) ≡ given (a % 2 ^ 24 + 0x100_0000 * (b % 2 ^ 24) + 0x1_0000_0000_0000 * (c % 2 ^ 16), body_at ws (i + 3))
  number-there e f g =
      ap number_from (body_1 e ∙ ap (λ xs. a ∷ xs) (body_2 f ∙ ap (λ xs. b ∷ xs) (body_3 g)))
      ∙ good a b c (a % 2 ^ 24) (b % 2 ^ 24) (c % 2 ^ 16) (body_at ws (i + 3)) (wide-given a e) (wide-given b f) (last-given c g)

  -- or they are none
  pub number-bad : are_number a b c ≡ false → number_from (body_at ws i) ≡ refused 1
  number-bad e =
      by_test (eqb (a / 2 ^ 24) 0xC0)
      (λ t. by_test (eqb (b / 2 ^ 24) 0xC0)
      (λ u. number_3 (eqb-true _ _ t) (eqb-true _ _ u) (eqb-false _ _ (sym (rw (t, u) refl) ∙ e)))
      (λ u. number_2 (eqb-true _ _ t) (eqb-false _ _ u)))
      (λ t. number_1 (eqb-false _ _ t))

  pub number_good : are_number a b c ≡ true
      → number_from (body_at ws i) ≡ given (a % 2 ^ 24 + 0x100_0000 * (b % 2 ^ 24) + 0x1_0000_0000_0000 * (c % 2 ^ 16), body_at ws (i + 3))
  number_good e =
      let x = both (eqb (a / 2 ^ 24) 0xC0) (eqb (b / 2 ^ 24) 0xC0 && eqb (c / 2 ^ 16) 0xC000) e in
      let y = both (eqb (b / 2 ^ 24) 0xC0) (eqb (c / 2 ^ 16) 0xC000) x.1 in
      number-there (eqb-true _ _ x.0) (eqb-true _ _ y.0) (eqb-true _ _ y.1)
