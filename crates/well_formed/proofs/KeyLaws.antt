-- The keys of two records. Assumes nothing.
use mathlib.Core.Path.{◌≡◌, refl, sym}
use mathlib.Core.Bool.{Bool}
use mathlib.Core.List.{List, [], ◌∷◌}
use Prim.Native.Nat.{ℕ}
use native.Mathlib.Omega.{arith}
use lib.Dec.{ltb}
use borrow.Author.Tests.{le-ltb}
use Rattle.format.specs.Sorted.{order, is_less}
use Rattle.object.specs.Bodies.{text_at}
use Rattle.well_formed.specs.Steps.{part_of, key_in}
use Rattle.well_formed.specs.declared.Key.{Key}
use Rattle.well_formed.specs.declared.Key.TheVariants as key
use Rattle.object.proofs.OrderLaws.{stage}

abbrev before : List ℕ → List ℕ → Bool
before x y = is_less (order x y)

-- of one part: by the name, or by the address or first line
pub key-names : (ws : List ℕ) (x y : ℕ) → before (text_at ws x) (text_at ws y) ≡ before (key_in ws (key.Label x)) (key_in ws (key.Label y))
unfolding order
key-names ws x y = refl

values : (x y : ℕ) → ltb x y ≡ before (x ∷ []) (y ∷ [])
unfolding order
values x y = sym (stage x y x y [] [] (λ h. h) (λ h. omega arith) (λ e. sym (le-ltb x y (omega arith))))

module _ (ws : List ℕ) (x y : ℕ) where
  pub key-blocks : ltb x y ≡ before (key_in ws (key.Block x)) (key_in ws (key.Block y))
  unfolding order
  key-blocks = values x y

  pub key-lines : ltb x y ≡ before (key_in ws (key.LineBlock x)) (key_in ws (key.LineBlock y))
  unfolding order
  key-lines = values x y

  pub key-relocations : ltb x y ≡ before (key_in ws (key.Relocation x)) (key_in ws (key.Relocation y))
  unfolding order
  key-relocations = values x y

-- the second is not of the first's part, or the part has no more than one key
abbrev pub Apart : Key → Key → Type 0
Apart key.Start b = Unit {0}
Apart (key.Block v) b = (x : ℕ) → b ≡ key.Block x → ⊥
Apart (key.Label n) b = (x : ℕ) → b ≡ key.Label x → ⊥
Apart (key.LineBlock v) b = (x : ℕ) → b ≡ key.LineBlock x → ⊥
Apart key.Source b = Unit {0}
Apart (key.Relocation v) b = (x : ℕ) → b ≡ key.Relocation x → ⊥

pub apart_rest :
    (a b : Key)
    → ((x : ℕ) → a ≡ key.Block x → ⊥)
    → ((x : ℕ) → a ≡ key.Label x → ⊥)
    → ((x : ℕ) → a ≡ key.LineBlock x → ⊥)
    → ((x : ℕ) → a ≡ key.Relocation x → ⊥)
    → Apart a b
apart_rest key.Start b nb nl ni nr = tt
apart_rest (key.Block v) b nb nl ni nr = absurd (nb v refl)
apart_rest (key.Label n) b nb nl ni nr = absurd (nl n refl)
apart_rest (key.LineBlock v) b nb nl ni nr = absurd (ni v refl)
apart_rest key.Source b nb nl ni nr = tt
apart_rest (key.Relocation v) b nb nl ni nr = absurd (nr v refl)

-- then by the part
pub key-parts : (ws : List ℕ) (a b : Key) → Apart a b → ltb (part_of a) (part_of b) ≡ before (key_in ws a) (key_in ws b)
unfolding order
key-parts ws key.Start key.Start f = refl
key-parts ws key.Start (key.Block v1) f = refl
key-parts ws key.Start (key.Label n1) f = refl
key-parts ws key.Start (key.LineBlock v1) f = refl
key-parts ws key.Start key.Source f = refl
key-parts ws key.Start (key.Relocation v1) f = refl
key-parts ws (key.Block v0) key.Start f = refl
key-parts ws (key.Block v0) (key.Block v1) f = absurd (f v1 refl)
key-parts ws (key.Block v0) (key.Label n1) f = refl
key-parts ws (key.Block v0) (key.LineBlock v1) f = refl
key-parts ws (key.Block v0) key.Source f = refl
key-parts ws (key.Block v0) (key.Relocation v1) f = refl
key-parts ws (key.Label n0) key.Start f = refl
key-parts ws (key.Label n0) (key.Block v1) f = refl
key-parts ws (key.Label n0) (key.Label n1) f = absurd (f n1 refl)
key-parts ws (key.Label n0) (key.LineBlock v1) f = refl
key-parts ws (key.Label n0) key.Source f = refl
key-parts ws (key.Label n0) (key.Relocation v1) f = refl
key-parts ws (key.LineBlock v0) key.Start f = refl
key-parts ws (key.LineBlock v0) (key.Block v1) f = refl
key-parts ws (key.LineBlock v0) (key.Label n1) f = refl
key-parts ws (key.LineBlock v0) (key.LineBlock v1) f = absurd (f v1 refl)
key-parts ws (key.LineBlock v0) key.Source f = refl
key-parts ws (key.LineBlock v0) (key.Relocation v1) f = refl
key-parts ws key.Source key.Start f = refl
key-parts ws key.Source (key.Block v1) f = refl
key-parts ws key.Source (key.Label n1) f = refl
key-parts ws key.Source (key.LineBlock v1) f = refl
key-parts ws key.Source key.Source f = refl
key-parts ws key.Source (key.Relocation v1) f = refl
key-parts ws (key.Relocation v0) key.Start f = refl
key-parts ws (key.Relocation v0) (key.Block v1) f = refl
key-parts ws (key.Relocation v0) (key.Label n1) f = refl
key-parts ws (key.Relocation v0) (key.LineBlock v1) f = refl
key-parts ws (key.Relocation v0) key.Source f = refl
key-parts ws (key.Relocation v0) (key.Relocation v1) f = absurd (f v1 refl)
