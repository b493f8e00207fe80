-- What a cell says, and where the first divider stands.
-- Assumes nothing.
use Rattle.std.specs.Prelude as std
use Rattle.std.specs.Prelude.{Some, None, ◌≡◌, Bool, List, [], ◌∷◌, ℕ, ◌+◌, ◌-◌, ◌≤◌, length, take, drop, if◌then◌else◌}
use Rattle.std.proofs.Math.Option.{Option, none, some}
use Rattle.format.specs.Basics.{begins_with}
use Rattle.format.specs.Utf8.{is_between}
use Rattle.format.specs.TextReader.{split_once}

-- the value of a digit; 16 if it is none
unfoldable pub digit_or16 : ℕ → ℕ
digit_or16 b = if is_between 48 57 b then b - 48 else if is_between 65 70 b then b - 55 else if is_between 97 102 b then b - 87 else 16

abbrev pub number_read : std.Option ℕ → Option ℕ
number_read (Some v) = some v
number_read None = none

abbrev pub entry_of : std.Option (std.Option ℕ) → Option (Option ℕ)
entry_of (Some a) = some (number_read a)
entry_of None = none

-- a divider at a place
abbrev pub bar_at : List ℕ → ℕ → Bool
bar_at s p = begins_with (0x20 ∷ 0x7C ∷ 0x20 ∷ []) (drop p s)

-- where the first divider stands
abbrev pub Cut : List ℕ → std.Option ℕ → Type 0
Cut s (Some i) = (i + 3 ≤ length s) × (split_once s ≡ some (take i s, drop (i + 3) s))
Cut s None = split_once s ≡ none
