-- A header: as many cells as columns at most, and none of the names is empty.
-- Assumes nothing.
use mathlib.Core.Path.{◌≡◌, refl, ap, ◌∙◌}
use mathlib.Core.Bool.{Bool, true, false, true≢false, ◌&&◌}
use mathlib.Core.List.{List, [], ◌∷◌, map}
use mathlib.Core.Option.{Option, none, some}
use Prim.Native.Nat.{ℕ, zero, suc, ◌≤◌}
use native.Mathlib.Omega.{arith}
use lib.ListN.{length, drop, get_or}
use lib.Seq.{get_or-drop}
use Rattle.format.specs.Basics.{eqs, is_empty}
use Rattle.format.specs.Utf8.{trim, trim_start, trim_end, trim_from}
use Rattle.format.specs.TextReader.{splitn, split_once, first_cell, same_cells}

unfoldable pub all_at : List (List ℕ) → List (List ℕ) → Bool
all_at xs [] = true
all_at xs (y ∷ ys) = eqs (trim (get_or xs 0 [])) y && all_at (drop 1 xs) ys

abbrev pub Named : List (List ℕ) → Type 0
Named [] = Unit {0}
Named (y ∷ ys) = (is_empty y ≡ false) × Named ys

eqs-empty : (y : List ℕ) → is_empty y ≡ false → eqs [] y ≡ false
unfolding eqs is_empty
eqs-empty [] e = absurd (true≢false e)
eqs-empty (b ∷ bs) e = refl

trim-empty : trim [] ≡ []
unfolding trim trim_start trim_end trim_from
trim-empty = refl

pub same_at : (xs ys : List (List ℕ)) → length xs ≤ length ys → Named ys → same_cells (map trim xs) ys ≡ all_at xs ys
unfolding same_cells all_at
same_at [] [] h n = refl
same_at [] (y ∷ ys) h n = rw (trim-empty, eqs-empty y n.0)
same_at (x ∷ xs) [] h n = absurd (omega arith)
same_at (x ∷ xs) (y ∷ ys) h n = ap (λ (b : Bool). eqs (trim x) y && b) (same_at xs ys (omega arith) n.1)

pub cells_length : (k : ℕ) (bs : List ℕ) → length (splitn k bs) ≤ suc k
unfolding splitn
cells_length zero bs = omega arith
cells_length (suc k) bs = go (split_once bs) (cells_length k)
  where
    go : (o : Option (List ℕ × List ℕ)) → ((r : List ℕ) → length (splitn k r) ≤ suc k) → length (first_cell bs (λ r. splitn k r) o) ≤ suc (suc k)
    go none h = omega arith
    go (some p) h = let q = h p.1 in omega arith

pub and_yes : (b : Bool) → (b && true) ≡ b
and_yes true = refl
and_yes false = refl

pub header3 : (l a b c : List ℕ) → is_empty a ≡ false → is_empty b ≡ false → is_empty c ≡ false
    → same_cells (map trim (splitn 2 l)) (a ∷ b ∷ c ∷ []) ≡ (eqs (trim (get_or (splitn 2 l) 0 [])) a && (eqs (trim (get_or (splitn 2 l) 1 [])) b && eqs (trim (get_or (splitn 2 l) 2 [])) c))
unfolding all_at
header3 l a b c i j k =
    same_at (splitn 2 l) (a ∷ b ∷ c ∷ []) (cells_length 2 l) (i, (j, (k, tt)))
    ∙ rw (get_or-drop 1 (splitn 2 l) 0 [], get_or-drop 1 (drop 1 (splitn 2 l)) 0 [], get_or-drop 1 (splitn 2 l) 1 [], and_yes (eqs (trim (get_or (splitn 2 l) 2 [])) c))

pub header2 : (l a b : List ℕ) → is_empty a ≡ false → is_empty b ≡ false → same_cells (map trim (splitn 1 l)) (a ∷ b ∷ []) ≡ (eqs (trim (get_or (splitn 1 l) 0 [])) a && eqs (trim (get_or (splitn 1 l) 1 [])) b)
unfolding all_at
header2 l a b i j =
    same_at (splitn 1 l) (a ∷ b ∷ []) (cells_length 1 l) (i, (j, tt)) ∙ rw (get_or-drop 1 (splitn 1 l) 0 [], and_yes (eqs (trim (get_or (splitn 1 l) 1 [])) b))
