-- White_Space at a place of a text and before it. Assumes nothing.
use Rattle.std.specs.Prelude.{◌≡◌, ◌<◌, Option, Some, None, Bool, ◌&&◌, List, ℕ, ◌-◌, drop, leb, ltb, eqb, if◌then◌else◌}
use Rattle.format.specs.Utf8.{char_at, white_space_length}

-- how many bytes the White_Space character at a place has; 0 if none begins there
abbrev pub white_at : List ℕ → ℕ → ℕ
white_at s at = white_space_length (char_at (drop at s))

-- the same by a byte of ASCII from the space up to `~`; 4, which no character has, where the byte doesn't show it
unfoldable pub shown_white : ℕ → ℕ
shown_white b = if eqb b 0x20 then 1 else if ltb b 0x20 then 4 else if ltb 0x7E b then 4 else 0

-- what a byte shows of it, if it does
abbrev pub ShownIs : ℕ → Option ℕ → Type 0
ShownIs b (Some n) = (n ≡ shown_white b) × (n < 4)
ShownIs b None = 4 ≡ shown_white b

-- a White_Space character of n bytes ends at a place
abbrev pub ends_white : List ℕ → ℕ → ℕ → Bool
ends_white s end n = leb n end && eqb (white_at s (end - n)) n

-- how many bytes the White_Space character has that ends at a place; 0 if none ends there. None has more than three
unfoldable pub white_before : List ℕ → ℕ → ℕ
white_before s end = if ends_white s end 1 then 1 else if ends_white s end 2 then 2 else if ends_white s end 3 then 3 else 0
