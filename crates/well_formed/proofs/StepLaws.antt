-- A record read, and what the walk asks of it. Assumes nothing.
use mathlib.Core.Path.{◌≡◌, refl, ◌∙◌, ap}
use mathlib.Core.Bool.{Bool, true, false, ◌&&◌}
use mathlib.Core.List.{List, [], ◌∷◌}
use mathlib.Core.Option.{Option}
use Prim.Native.Nat.{ℕ, suc, ◌+◌, ◌-◌, ◌/◌, ◌%◌, ◌^◌}
use native.Mathlib.Omega.{arith}
use lib.ListN.{length}
use lib.Dec.{leb}
use borrow.Author.Tests.{eq-eqb, ne_eqb}
use Rattle.format.specs.Basics.{Outcome, refused, given, ◌>>=◌, ask}
use Rattle.format.specs.Digits.{value_of}
use Rattle.format.specs.Sorted.{order, is_less}
use Rattle.format.specs.Basics.{is_given}
use Rattle.format.specs.Records.{Record, block, label, line_block, source, relocation, record_key}
use Rattle.format.specs.Words.{bits_of, memory_of, memories_of, addresses_of, number_from, text_from, record_from}
use Rattle.object.specs.Bodies.{allows}
use Rattle.well_formed.specs.Run.{Past, fits, sound_record, apart_from}
use Rattle.object.proofs.Tests.{clash}
use Rattle.object.proofs.WordLaws.{bits_given, bits_refused}

and_3 : (a b c : Bool) → a ≡ true → b ≡ true → c ≡ true → (a && (b && c)) ≡ true
and_3 a b c p q r = rw (p, q, r)

and_1 : (a b c : Bool) → a ≡ false → (a && (b && c)) ≡ false
and_1 a b c p = rw p

and_2 : (a b c : Bool) → b ≡ false → (a && (b && c)) ≡ false
and_2 true b c p = rw p
and_2 false b c p = refl

and_last : (a b c : Bool) → c ≡ false → (a && (b && c)) ≡ false
and_last true true c p = p
and_last true false c p = refl
and_last false b c p = refl

-- what an outcome's test says
pub record Good {A : Type 0} (o : Outcome A) (q : A → Bool) : Type 0 where
  pub it : A
  pub gives : o ≡ given it
  pub passes : q it ≡ true

pub good : {A : Type 0} (o : Outcome A) (q : A → Bool) → allows o q ≡ true → Good o q
good (refused n) q e = clash e refl
good (given a) q e = record { it = a; gives = refl; passes = e }

pub given_it : {A : Type 0} (o : Outcome A) → is_given o ≡ true → Good o (λ a. true)
given_it (refused n) e = clash e refl
given_it (given a) e = record { it = a; gives = refl; passes = refl }

module _ (g : ℕ × List ℕ) (p : Past) where
  abbrev Refused : Type 0
  Refused = allows (record_from g) (fits p) ≡ false

  pub not-read : {n : ℕ} → record_from g ≡ refused n → Refused
  not-read e = ap (λ o. allows o (fits p)) e

  module _ (r : Record) (e : record_from g ≡ given r) where
    pub falls : is_less (order p.key (record_key r)) ≡ false → Refused
    unfolding fits
    falls h = ap (λ o. allows o (fits p)) e ∙ and_1 (is_less (order p.key (record_key r))) (sound_record r) (apart_from p.end r) h

    pub unsound : sound_record r ≡ false → Refused
    unfolding fits
    unsound h = ap (λ o. allows o (fits p)) e ∙ and_2 (is_less (order p.key (record_key r))) (sound_record r) (apart_from p.end r) h

    pub near : apart_from p.end r ≡ false → Refused
    unfolding fits
    near h = ap (λ o. allows o (fits p)) e ∙ and_last (is_less (order p.key (record_key r))) (sound_record r) (apart_from p.end r) h

  -- a body that is not as it should be: not read, or not consistent
  pub bad_body : {A : Type 0} (o : Outcome A) (q : A → Bool) (make : A → Record) → ((a : A) → sound_record (make a) ≡ q a) → record_from g
      ≡ (o >>= λ a. given (make a))
      → allows o q ≡ false → Refused
  bad_body (refused n) q make s e h = not-read e
  bad_body (given a) q make s e h = unsound (make a) e (s a ∙ h)

pub fitting : (p : Past) (r : Record) → is_less (order p.key (record_key r)) ≡ true → sound_record r ≡ true → apart_from p.end r ≡ true
    → fits p r ≡ true
unfolding fits
fitting p r a b c = and_3 (is_less (order p.key (record_key r))) (sound_record r) (apart_from p.end r) a b c

-- the words of each kind of record
module _ (w : ℕ) (xs : List ℕ) where
  module _ (k : w / 2 ^ 29 ≡ 0) where
    pub block-head : (w / 2 ^ 16 ≡ 0 → ⊥) → record_from (w, xs) ≡ refused 1
    unfolding record_from
    block-head n = simp (eq-eqb (w / 2 ^ 29) 0 k, bits_refused 0 (2 ^ 16) w (λ p q. n (omega arith)))

    pub block_read : w / 2 ^ 16 ≡ 0 → record_from (w, xs) ≡ (memories_of xs >>= λ ms. given (block (record { address = w; words = ms })))
    unfolding record_from
    block_read e = let v : w % 2 ^ 29 ≡ w = omega arith in simp (eq-eqb (w / 2 ^ 29) 0 k, bits_given 0 (2 ^ 16) w k (omega arith), v)

  module _ (k : w / 2 ^ 29 ≡ 2) where
    pub label-head : (w / 2 ^ 17 ≡ 0x2000 → ⊥) → record_from (w, xs) ≡ refused 1
    unfolding record_from
    label-head n = simp (
      ne_eqb (w / 2 ^ 29) 0 (λ z. omega arith),
      eq-eqb (w / 2 ^ 29) 2 k,
      bits_refused 2 (2 ^ 17) w (λ p q. n (omega arith)),
    )

    pub label-number : w / 2 ^ 17 ≡ 0x2000 → number_from xs ≡ refused 1 → record_from (w, xs) ≡ refused 1
    unfolding record_from
    label-number e n = simp (ne_eqb (w / 2 ^ 29) 0 (λ z. omega arith), eq-eqb (w / 2 ^ 29) 2 k, bits_given 2 (2 ^ 17) w k (omega arith), n)

    pub label-read : (v : ℕ) (ys : List ℕ) → w / 2 ^ 17 ≡ 0x2000 → number_from xs ≡ given (v, ys)
        → record_from (w, xs) ≡ (text_from ys >>= λ t. given (label
        (record { name = t; address = w % 2 ^ 29 % 2 ^ 16; external = leb (2 ^ 16) (w % 2 ^ 29); start = v })))
    unfolding record_from
    label-read v ys e n = simp (
      ne_eqb (w / 2 ^ 29) 0 (λ z. omega arith),
      eq-eqb (w / 2 ^ 29) 2 k,
      bits_given 2 (2 ^ 17) w k (omega arith),
      n,
    )

  module _ (k : w / 2 ^ 29 ≡ 3) where
    pub line-head : (w ≡ 0x6000_0000 → ⊥) → record_from (w, xs) ≡ refused 1
    unfolding record_from
    line-head n =
        simp (
          ne_eqb (w / 2 ^ 29) 0 (λ z. omega arith),
          ne_eqb (w / 2 ^ 29) 2 (λ z. omega arith),
          eq-eqb (w / 2 ^ 29) 3 k,
          bits_refused 3 1 w (λ p q. n (omega arith)),
        )

    pub line-number : w ≡ 0x6000_0000 → number_from xs ≡ refused 1 → record_from (w, xs) ≡ refused 1
    unfolding record_from
    line-number e n =
        simp (
          ne_eqb (w / 2 ^ 29) 0 (λ z. omega arith),
          ne_eqb (w / 2 ^ 29) 2 (λ z. omega arith),
          eq-eqb (w / 2 ^ 29) 3 k,
          bits_given 3 1 w k (omega arith),
          n,
        )

    pub line_read : (v : ℕ) (ys : List ℕ) → w ≡ 0x6000_0000 → number_from xs ≡ given (v, ys)
        → record_from (w, xs) ≡ (addresses_of ys >>= λ ns. given (line_block (record { first = v; addresses = ns })))
    unfolding record_from
    line_read v ys e n =
        simp (
          ne_eqb (w / 2 ^ 29) 0 (λ z. omega arith),
          ne_eqb (w / 2 ^ 29) 2 (λ z. omega arith),
          eq-eqb (w / 2 ^ 29) 3 k,
          bits_given 3 1 w k (omega arith),
          n,
        )

  module _ (k : w / 2 ^ 29 ≡ 4) where
    pub source-head : (w ≡ 0x8000_0000 → ⊥) → record_from (w, xs) ≡ refused 1
    unfolding record_from
    source-head n =
        simp (
          ne_eqb (w / 2 ^ 29) 0 (λ z. omega arith),
          ne_eqb (w / 2 ^ 29) 2 (λ z. omega arith),
          ne_eqb (w / 2 ^ 29) 3 (λ z. omega arith),
          eq-eqb (w / 2 ^ 29) 4 k,
          bits_refused 4 1 w (λ p q. n (omega arith)),
        )

    pub source-read : w ≡ 0x8000_0000 → record_from (w, xs) ≡ (text_from xs >>= λ t. given (source t))
    unfolding record_from
    source-read e =
        simp (
          ne_eqb (w / 2 ^ 29) 0 (λ z. omega arith),
          ne_eqb (w / 2 ^ 29) 2 (λ z. omega arith),
          ne_eqb (w / 2 ^ 29) 3 (λ z. omega arith),
          eq-eqb (w / 2 ^ 29) 4 k,
          bits_given 4 1 w k (omega arith),
        )

  module _ (k : w / 2 ^ 29 ≡ 5) where
    pub relocation-head : (w / 2 ^ 16 ≡ 0xA000 → ⊥) → record_from (w, xs) ≡ refused 1
    unfolding record_from
    relocation-head n =
        simp (
          ne_eqb (w / 2 ^ 29) 0 (λ z. omega arith),
          ne_eqb (w / 2 ^ 29) 2 (λ z. omega arith),
          ne_eqb (w / 2 ^ 29) 3 (λ z. omega arith),
          ne_eqb (w / 2 ^ 29) 4 (λ z. omega arith),
          bits_refused 5 (2 ^ 16) w (λ p q. n (omega arith)),
        )

    pub relocation-read : w / 2 ^ 16 ≡ 0xA000 → record_from (w, xs)
        ≡ (text_from xs >>= λ t. given (relocation (record { address = w % 2 ^ 16; name = t })))
    unfolding record_from
    relocation-read e =
        let v : w % 2 ^ 29 ≡ w % 2 ^ 16 = omega arith in
        simp (
          ne_eqb (w / 2 ^ 29) 0 (λ z. omega arith),
          ne_eqb (w / 2 ^ 29) 2 (λ z. omega arith),
          ne_eqb (w / 2 ^ 29) 3 (λ z. omega arith),
          ne_eqb (w / 2 ^ 29) 4 (λ z. omega arith),
          bits_given 5 (2 ^ 16) w k (omega arith),
          v,
        )

-- how long the parts are
pub memories_length : (xs : List ℕ) (ms : List (Option ℕ)) → memories_of xs ≡ given ms → length ms ≡ length xs
unfolding memories_of
memories_length [] ms e = let q : ms ≡ [] = cc in ap length q
memories_length (x ∷ xs) ms e = go (memory_of x) (memories_of xs) (memories_length xs) e
  where
    go : (o : Outcome (Option ℕ)) (p : Outcome (List (Option ℕ))) → ((ns : List (Option ℕ)) → p ≡ given ns → length ns ≡ length xs)
        → (o >>= λ m. p >>= λ ms. given (m ∷ ms)) ≡ given ms → length ms ≡ length (x ∷ xs)
    go (refused n) p ih e = let z : ◌≡◌ {A = ℕ} 0 1 = cc in absurd (omega arith)
    go (given m) (refused n) ih e = let z : ◌≡◌ {A = ℕ} 0 1 = cc in absurd (omega arith)
    go (given m) (given ns) ih e = let q : ms ≡ m ∷ ns = cc in ap length q ∙ ap suc (ih ns refl)

pub addresses-length : (xs ns : List ℕ) → addresses_of xs ≡ given ns → length ns ≡ length xs
unfolding addresses_of
addresses-length [] ns e = let q : ns ≡ [] = cc in ap length q
addresses-length (x ∷ xs) ns e = go (bits_of 1 (2 ^ 17) x) (addresses_of xs) (addresses-length xs) e
  where
    asked : (t : Bool) (a : ℕ) (p : Outcome (List ℕ)) → ((ms : List ℕ) → p ≡ given ms → length ms ≡ length xs)
        → (ask 1 t >>= λ _. p >>= λ ms. given (a ∷ ms)) ≡ given ns → length ns ≡ length (x ∷ xs)
    asked false a p ih e = let z : ◌≡◌ {A = ℕ} 0 1 = cc in absurd (omega arith)
    asked true a (refused n) ih e = let z : ◌≡◌ {A = ℕ} 0 1 = cc in absurd (omega arith)
    asked true a (given ms) ih e = let q : ns ≡ a ∷ ms = cc in ap length q ∙ ap suc (ih ms refl)

    go : (o : Outcome ℕ) (p : Outcome (List ℕ)) → ((ms : List ℕ) → p ≡ given ms → length ms ≡ length xs)
        → (o >>= λ a. ask 1 (leb (2 ^ 16) a) >>= λ _. p >>= λ ms. given ((a - 2 ^ 16) ∷ ms)) ≡ given ns → length ns ≡ length (x ∷ xs)
    go (refused n) p ih e = let z : ◌≡◌ {A = ℕ} 0 1 = cc in absurd (omega arith)
    go (given a) p ih e = asked (leb (2 ^ 16) a) (a - 2 ^ 16) p ih e

pub number-length : (xs ys : List ℕ) (v : ℕ) → number_from xs ≡ given (v, ys) → length xs ≡ 3 + length ys
unfolding number_from
number-length [] ys v e = let z : ◌≡◌ {A = ℕ} 0 1 = cc in absurd (omega arith)
number-length (a ∷ []) ys v e = let z : ◌≡◌ {A = ℕ} 0 1 = cc in absurd (omega arith)
number-length (a ∷ b ∷ []) ys v e = let z : ◌≡◌ {A = ℕ} 0 1 = cc in absurd (omega arith)
number-length (a ∷ b ∷ c ∷ xs) ys v e = go (bits_of 6 (2 ^ 24) a) (bits_of 6 (2 ^ 24) b) (bits_of 6 (2 ^ 16) c) e
  where
    rest_of : Outcome (ℕ × List ℕ) → List ℕ
    rest_of (refused n) = []
    rest_of (given t) = t.1

    pair : ℕ → ℕ → ℕ → Outcome (ℕ × List ℕ)
    pair x y z = given (value_of 24 (x ∷ y ∷ z ∷ []), xs)

    go : (o p q : Outcome ℕ) → (o >>= λ x. p >>= λ y. q >>= λ z. pair x y z) ≡ given (v, ys) → length (a ∷ b ∷ c ∷ xs) ≡ 3 + length ys
    go (refused n) p q e = let z : ◌≡◌ {A = ℕ} 0 1 = cc in absurd (omega arith)
    go (given x) (refused n) q e = let z : ◌≡◌ {A = ℕ} 0 1 = cc in absurd (omega arith)
    go (given x) (given y) (refused n) e = let z : ◌≡◌ {A = ℕ} 0 1 = cc in absurd (omega arith)
    go (given x) (given y) (given z) e = let h : xs ≡ ys = ap rest_of e in omega (arith, ap length h)
