-- Room counted down, row by row, and the widest of all rows. Assumes nothing.
use mathlib.Core.Path.{◌≡◌, refl, sym, ap, ◌∙◌}
use mathlib.Core.List.{List, [], ◌∷◌, ◌++◌, flat_map}
use mathlib.Core.Option.{none, some}
use Prim.Native.Nat.{ℕ, max}
use native.Mathlib.Omega.{arith}
use Rattle.format.specs.TextWriter.{widest}
use Rattle.measuring.specs.Room.{less_part}
use Rattle.measuring.proofs.RoomLaws.{part-fits, part-short, less-nothing}

-- a row, and those after it
module _ (line : ℕ → List ℕ) (ps qs : List ℕ) (p : ℕ) (next : ps ≡ p ∷ qs) where
  rows_next : flat_map line ps ≡ line p ++ flat_map line qs
  unfolding flat_map
  rows_next = ap (flat_map line) next

  module _ (space : ℕ) where
    pub row-left : {k : ℕ} → some k ≡ less_part space (line p) → less_part k (flat_map line qs) ≡ less_part space (flat_map line ps)
    row-left e = part-fits space (line p) (flat_map line qs) rows_next e

    pub row-short : none ≡ less_part space (line p) → none ≡ less_part space (flat_map line ps)
    row-short e = part-short space (line p) (flat_map line qs) rows_next e

-- no more rows
pub rows_none : (line : ℕ → List ℕ) (ps : List ℕ) (space : ℕ) → ps ≡ [] → some space ≡ less_part space (flat_map line ps)
unfolding flat_map
rows_none line ps space e = less-nothing space ∙ ap (λ xs. less_part space (flat_map line xs)) (sym e)

-- THE WIDEST
module _ (f : ℕ → ℕ) where
  widest-max : (a l : ℕ) (xs : List ℕ) → widest f (max a l) xs ≡ max a (widest f l xs)
  unfolding widest
  widest-max a l [] = refl
  widest-max a l (x ∷ xs) = let e = widest-max a l xs in omega (arith, e)

  pub widest-on : (l p : ℕ) (ps qs : List ℕ) → ps ≡ p ∷ qs → widest f (max (f p) l) qs ≡ widest f l ps
  unfolding widest
  widest-on l p ps qs e = widest-max (f p) l qs ∙ ap (widest f l) (sym e)

  pub widest-end : (l : ℕ) (ps : List ℕ) → ps ≡ [] → widest f l ps ≡ l
  unfolding widest
  widest-end l ps e = ap (widest f l) e
