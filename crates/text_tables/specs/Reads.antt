-- A table's rows, parsed along a view.
-- Assumes nothing.
use Rattle.std.specs.Prelude.{◌≡◌, List, ◌∷◌, ℕ, ◌≤◌, ◌<◌, length}
use Rattle.std.proofs.Math.Option.{Option, some}
use Rattle.format.specs.Basics.{and_then, all_some}
use Rattle.text_lines.specs.Views.{View}

-- the rows left, if all of them read
unfoldable pub read_from : {C R : Type 0} → (List ℕ → Option R) → View C → ℕ → Option (List R)
read_from parse v at = all_some parse (v at).0

-- a row, and the place after it
pub record ReadAt {C R : Type 0} (parse : List ℕ → Option R) (v : View C) (t : List ℕ) (at : ℕ) (r : R) (n : ℕ) : Type 0 where
  pub on : at < n
  pub next : n ≤ length t
  pub after : (v n).1 ≡ (v at).1
  pub same : read_from parse v at ≡ and_then (read_from parse v n) λ rs. some (r ∷ rs)
