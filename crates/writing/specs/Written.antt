-- What a part writer hands back and leaves in the room that it is lent: "Each part is written into the unused rest of the output". Bytes
-- and words alike. Assumes nothing.
use Rattle.std.specs.Prelude.{◌≡◌, Bool, List, ◌++◌, ℕ, length, drop, leb, if◌then◌else◌}

module _ {A : Type 0} (part room : List A) where
  -- the room with the part at its front; what lies past it stays
  abbrev pub into : List A
  into = part ++ drop (length part) room

  abbrev pub fits_in : Bool
  fits_in = leb (length part) (length room)

  -- the length filled: 0 where the room is too short
  unfoldable pub filled : ℕ
  filled = if fits_in then length part else 0

  -- the room after: as found where it is too short
  unfoldable pub written : List A
  written = if fits_in then into else room

-- THE CONTRACT OF A PART WRITER: what it returns, and what the room holds at exit
abbrev pub Put : {A : Type 0} → List A → List A → ℕ → List A → Type 0
Put part room r after = (r ≡ filled part room) × (after ≡ written part room)
