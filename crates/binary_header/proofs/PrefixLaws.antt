-- Whether bytes begin with other bytes, as std's slices say it. Assumes nothing.
use mathlib.Core.Path.{◌≡◌, refl, ap}
use mathlib.Core.Bool.{Bool, ◌&&◌}
use mathlib.Core.List.{List, [], ◌∷◌}
use Prim.Native.Nat.{ℕ}
use lib.Dec.{eqb}
use Rattle.std.specs.List.{starts_with}
use Rattle.format.specs.Basics.{begins_with}

pub starts_begins : (xs ys : List ℕ) → starts_with eqb ys xs ≡ begins_with xs ys
unfolding begins_with
starts_begins [] ys = refl
starts_begins (x ∷ xs) [] = refl
starts_begins (x ∷ xs) (y ∷ ys) = ap (λ (b : Bool). eqb x y && b) (starts_begins xs ys)
