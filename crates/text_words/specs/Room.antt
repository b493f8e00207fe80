-- How much of a room parts leave: counted down, so that no sum can pass 64 bits. Assumes nothing.
use Rattle.std.specs.Prelude.{Option, Some, None, List, [], ◌∷◌, ℕ, ◌-◌, length, leb, if◌then◌else◌}
use Rattle.std.proofs.Math.Option.{none, some}
use Rattle.std.proofs.Math.Option as math
use Rattle.format.specs.Basics.{and_then}

abbrev pub room_of : Option ℕ → math.Option ℕ  -- the room that is left, or none where it is too short
room_of (Some n) = some n
room_of None = none

unfoldable pub room_for : ℕ → ℕ → math.Option ℕ  -- after n words
room_for n room = if leb n room then some (room - n) else none

unfoldable pub room_after : List (List ℕ) → ℕ → math.Option ℕ  -- after parts, one after the other
room_after [] room = some room
room_after (p ∷ ps) room = and_then (room_for (length p) room) λ left. room_after ps left
