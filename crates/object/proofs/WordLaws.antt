-- Words of each kind. Assumes nothing.
use mathlib.Core.Path.{◌≡◌, refl, sym, ◌∙◌, ap}
use mathlib.Core.Bool.{Bool, true, false, ◌&&◌, ◌||◌}
use mathlib.Core.List.{List, [], ◌∷◌}
use mathlib.Core.Option.{Option}
use Prim.Native.Nat.{ℕ, ◌-◌, ◌/◌, ◌%◌, ◌^◌, ◌≤◌, ◌<◌}
use native.Mathlib.Omega.{arith}
use lib.Dec.{ltb, eqb}
use borrow.Author.Tests.{lt-ltb, le-ltb, le-leb, lt-leb, eq-eqb, ne_eqb, ltb-true, ltb-false, eqb-true, eqb-false}
use Rattle.format.specs.Basics.{Outcome, refused, given, ◌>>=◌, chain}
use Rattle.format.specs.Basics.{is_given}
use Rattle.format.specs.Utf8.{is_between}
use Rattle.format.specs.ObjectFile.{never_fall}
use Rattle.format.specs.Words.{bits_of, memory_of, memories_of, addresses_of, is_head}
use Rattle.object.specs.Bodies.{allows}
use Rattle.object.specs.Bodies.{good_memory, good_addresses}
use Rattle.format.proofs.ListLaws.{by_test}
use Rattle.object.proofs.Tests.{clash}

pub head-one : (w : ℕ) → w / 2 ^ 29 ≡ 1 → false ≡ is_head w
unfolding is_head
head-one w e = rw e

pub head-other : (w : ℕ) → (w / 2 ^ 29 ≡ 1 → ⊥) → ltb (w / 2 ^ 29) 6 ≡ is_head w
unfolding is_head
head-other w ne = go (w / 2 ^ 29) ne
  where
    go : (k : ℕ) → (k ≡ 1 → ⊥) → ltb k 6 ≡ (eqb k 0 || is_between 2 5 k)
    go k ne =
        by_test (ltb k 6)
        (λ e. let h : k < 6 = ltb-true k 6 e in by_test (eqb k 0) (λ z. simp (e, z))
        (λ z. let nz = eqb-false k 0 z in simp (e, z, le-leb 2 k (omega arith), le-leb k 5 (omega arith))))
        (λ e. let h : 6 ≤ k = ltb-false k 6 e in simp (
          e,
          ne_eqb k 0 (λ z. omega arith),
          le-leb 2 k (omega arith),
          lt-leb k 5 (omega arith),
        ))

-- a head of none of the other kinds is a relocation
pub head-kind : (w : ℕ) → is_head w ≡ true → (w / 2 ^ 29 ≡ 0 → ⊥) → (w / 2 ^ 29 ≡ 2 → ⊥) → (w / 2 ^ 29 ≡ 3 → ⊥) → (w / 2 ^ 29 ≡ 4 → ⊥)
    → w / 2 ^ 29 ≡ 5
head-kind w h n0 n2 n3 n4 =
    by_test (eqb (w / 2 ^ 29) 1)
    (λ t. clash h (sym (head-one w (eqb-true (w / 2 ^ 29) 1 t))))
    (λ t. let n1 = eqb-false (w / 2 ^ 29) 1 t in let l = ltb-true (w / 2 ^ 29) 6 (head-other w n1 ∙ h) in omega arith)

-- words of numbers and texts go on
pub head-high : (w : ℕ) → 0xC000_0000 ≤ w → is_head w ≡ false
head-high w h =
    let k : 6 ≤ w / 2 ^ 29 = omega arith in sym (head-other w (λ e. absurd (omega (arith, k)))) ∙ le-ltb (w / 2 ^ 29) 6 k

module _ (kind limit w : ℕ) where
  pub bits_given : w / 2 ^ 29 ≡ kind → w % 2 ^ 29 < limit → bits_of kind limit w ≡ given (w % 2 ^ 29)
  unfolding bits_of
  bits_given a b = simp (eq-eqb (w / 2 ^ 29) kind a, lt-ltb (w % 2 ^ 29) limit b)

  pub bits_refused : (w / 2 ^ 29 ≡ kind → w % 2 ^ 29 < limit → ⊥) → bits_of kind limit w ≡ refused 1
  unfolding bits_of
  bits_refused n =
      by_test (eqb (w / 2 ^ 29) kind)
      (λ a. by_test (ltb (w % 2 ^ 29) limit) (λ b. absurd (n (eqb-true (w / 2 ^ 29) kind a) (ltb-true (w % 2 ^ 29) limit b)))
      (λ b. simp (a, b)))
      (λ a. simp a)

-- memory words
pub memory_none : (w : ℕ) → w ≡ 0x2000_0000 → is_given (memory_of w) ≡ true
unfolding memory_of bits_of
memory_none w e = rw e

pub memory_some : (w : ℕ) → w / 2 ^ 16 ≡ 0x2001 → is_given (memory_of w) ≡ true
unfolding memory_of
memory_some w e = simp (
  bits_given 1 (2 ^ 17) w (omega arith) (omega arith),
  ne_eqb (w % 2 ^ 29) 0 (λ z. omega arith),
  le-leb (2 ^ 16) (w % 2 ^ 29) (omega arith),
)

pub memory_bad : (w : ℕ) → (w ≡ 0x2000_0000 → ⊥) → (w / 2 ^ 16 ≡ 0x2001 → ⊥) → is_given (memory_of w) ≡ false
unfolding memory_of
memory_bad w nz ns =
    by_test (eqb (w / 2 ^ 29) 1)
    (λ a. let k = eqb-true (w / 2 ^ 29) 1 a in
    by_test (ltb (w % 2 ^ 29) (2 ^ 17))
    (λ b. let l = ltb-true (w % 2 ^ 29) (2 ^ 17) b in
    simp (bits_given 1 (2 ^ 17) w k l, ne_eqb (w % 2 ^ 29) 0 (λ z. nz (omega arith)), lt-leb (2 ^ 16) (w % 2 ^ 29) (below l k)))
    (λ b. let l = ltb-false (w % 2 ^ 29) (2 ^ 17) b in rw (bits_refused 1 (2 ^ 17) w (λ p q. omega arith))))
    (λ a. let n = eqb-false (w / 2 ^ 29) 1 a in rw (bits_refused 1 (2 ^ 17) w (λ p q. n p)))
  where
    below : w % 2 ^ 29 < 2 ^ 17 → w / 2 ^ 29 ≡ 1 → w % 2 ^ 29 < 2 ^ 16
    below l k = by_test (ltb (w % 2 ^ 29) (2 ^ 16)) (λ t. ltb-true (w % 2 ^ 29) (2 ^ 16) t)
        (λ t. let g = ltb-false (w % 2 ^ 29) (2 ^ 16) t in absurd (ns (omega arith)))

pub memory_other : (w : ℕ) → (w ≡ 0x2000_0000 → ⊥) → eqb (w / 2 ^ 16) 0x2001 ≡ is_given (memory_of w)
memory_other w nz =
    by_test (eqb (w / 2 ^ 16) 0x2001)
    (λ e. e ∙ sym (memory_some w (eqb-true (w / 2 ^ 16) 0x2001 e)))
    (λ e. e ∙ sym (memory_bad w nz (eqb-false (w / 2 ^ 16) 0x2001 e)))

pub memory_cons : (w : ℕ) (ws : List ℕ) → good_memory (w ∷ ws) ≡ (is_given (memory_of w) && good_memory ws)
unfolding good_memory memories_of
memory_cons w ws = go (memory_of w) (memories_of ws)
  where
    go : (o : Outcome (Option ℕ)) (p : Outcome (List (Option ℕ))) → is_given (o >>= λ m. p >>= λ ms. given (m ∷ ms))
        ≡ (is_given o && is_given p)
    go (refused n) p = refl
    go (given m) (refused n) = refl
    go (given m) (given ms) = refl

-- addresses, from one on
abbrev pub addresses_on : ℕ → List ℕ → Bool
addresses_on last ws = allows (addresses_of ws) (λ xs. never_fall (last ∷ xs))

pub addresses-start : (ws : List ℕ) → addresses_on 0 ws ≡ good_addresses ws
unfolding good_addresses chain
addresses-start ws = go (addresses_of ws)
  where
    go : (o : Outcome (List ℕ)) → allows o (λ xs. never_fall (0 ∷ xs)) ≡ allows o never_fall
    go (refused n) = refl
    go (given []) = refl
    go (given (x ∷ xs)) = rw (le-leb 0 x (omega arith))

pub addresses-end : (last : ℕ) → addresses_on last [] ≡ true
unfolding addresses_of chain
addresses-end last = refl

module _ (last w : ℕ) (ws : List ℕ) where
  address : w / 2 ^ 16 ≡ 0x2001 → (o : Outcome (List ℕ)) → addresses_of ws ≡ o → addresses_of (w ∷ ws)
      ≡ (o >>= λ xs. given ((w % 2 ^ 16) ∷ xs))
  unfolding addresses_of
  address e o q =
      let v : w % 2 ^ 29 - 2 ^ 16 ≡ w % 2 ^ 16 = omega arith in
      simp (bits_given 1 (2 ^ 17) w (omega arith) (omega arith), le-leb (2 ^ 16) (w % 2 ^ 29) (omega arith), q, v)

  pub address-kind : (w / 2 ^ 16 ≡ 0x2001 → ⊥) → addresses_on last (w ∷ ws) ≡ false
  unfolding addresses_of
  address-kind n =
      by_test (eqb (w / 2 ^ 29) 1)
      (λ a. let k = eqb-true (w / 2 ^ 29) 1 a in
      by_test (ltb (w % 2 ^ 29) (2 ^ 17))
      (λ b. let l = ltb-true (w % 2 ^ 29) (2 ^ 17) b in simp (bits_given 1 (2 ^ 17) w k l, lt-leb (2 ^ 16) (w % 2 ^ 29) (below l k)))
      (λ b. let l = ltb-false (w % 2 ^ 29) (2 ^ 17) b in rw (bits_refused 1 (2 ^ 17) w (λ p q. omega arith))))
      (λ a. let m = eqb-false (w / 2 ^ 29) 1 a in rw (bits_refused 1 (2 ^ 17) w (λ p q. m p)))
    where
      below : w % 2 ^ 29 < 2 ^ 17 → w / 2 ^ 29 ≡ 1 → w % 2 ^ 29 < 2 ^ 16
      below l k = by_test (ltb (w % 2 ^ 29) (2 ^ 16)) (λ t. ltb-true (w % 2 ^ 29) (2 ^ 16) t)
          (λ t. let g = ltb-false (w % 2 ^ 29) (2 ^ 16) t in absurd (n (omega arith)))

  pub address_falls : w / 2 ^ 16 ≡ 0x2001 → w % 2 ^ 16 < last → addresses_on last (w ∷ ws) ≡ false
  unfolding chain
  address_falls e h = ap (λ o. allows o (λ xs. never_fall (last ∷ xs))) (address e (addresses_of ws) refl) ∙ go (addresses_of ws)
    where
      go : (o : Outcome (List ℕ)) → allows (o >>= λ xs. given ((w % 2 ^ 16) ∷ xs)) (λ xs. never_fall (last ∷ xs)) ≡ false
      go (refused n) = refl
      go (given xs) = rw (lt-leb last (w % 2 ^ 16) h)

  pub address-next : w / 2 ^ 16 ≡ 0x2001 → last ≤ w % 2 ^ 16 → addresses_on last (w ∷ ws) ≡ addresses_on (w % 2 ^ 16) ws
  unfolding chain
  address-next e h = ap (λ o. allows o (λ xs. never_fall (last ∷ xs))) (address e (addresses_of ws) refl) ∙ go (addresses_of ws)
    where
      go : (o : Outcome (List ℕ)) → allows (o >>= λ xs. given ((w % 2 ^ 16) ∷ xs)) (λ xs. never_fall (last ∷ xs))
          ≡ allows o (λ xs. never_fall ((w % 2 ^ 16) ∷ xs))
      go (refused n) = refl
      go (given xs) = rw (le-leb last (w % 2 ^ 16) h)
