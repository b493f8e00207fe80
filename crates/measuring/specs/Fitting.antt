-- What is written of several parts where the room may be too short for all: each that still fits, one after the other. Assumes nothing.
use Rattle.std.specs.Prelude.{List, [], ◌∷◌, ◌++◌, ℕ, ◌-◌, length, leb, if◌then◌else◌}

-- a part, if there is room for it
unfoldable pub keep : ℕ → List ℕ → List ℕ
keep room part = if leb (length part) room then part else []

-- the parts of a list's members
module _ {A : Type 0} (part : A → List ℕ) where
  unfoldable pub fitting : ℕ → List A → List ℕ
  fitting room [] = []
  fitting room (x ∷ xs) = keep room (part x) ++ fitting (room - length (keep room (part x))) xs
