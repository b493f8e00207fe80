-- A view of a text: from each place, the lines left of some part of it, and what is left after that part. A walk over lines is a walk
-- along a view, whichever the part is; a table's rows are parsed along a view.
-- Assumes nothing.
use Rattle.std.specs.Prelude.{◌≡◌, List, ◌∷◌, ℕ, ◌≤◌, ◌<◌, length}
use Rattle.trim.specs.Span.{part}

abbrev pub View : Type 0 → Type 0
View C = ℕ → List (List ℕ) × C

-- a line, and the place after it
pub record StepAt {C : Type 0} (v : View C) (t : List ℕ) (at a e n : ℕ) : Type 0 where
  pub ordered : a ≤ e
  pub inside : e ≤ length t
  pub on : at < n
  pub next : n ≤ length t
  pub same : v at ≡ (part a e t ∷ (v n).0, (v n).1)
