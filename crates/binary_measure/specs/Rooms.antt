-- The room that is left of a buffer while the lengths of parts are taken from it. Assumes nothing.
use Rattle.std.specs.Prelude.{◌≡◌, ℕ, ◌+◌, ◌<◌, Option, Some, None}

-- of a buffer of length `room`, `need` is taken: this is left, or it is short
abbrev pub Leaves : ℕ → ℕ → Option ℕ → Type 0
Leaves room need (Some left) = need + left ≡ room
Leaves room need None = room < need

-- whatever was taken before, n more is taken
abbrev pub Takes : Option ℕ → ℕ → Option ℕ → Type 0
Takes s n r = (room need : ℕ) → Leaves room need s → Leaves room (need + n) r
