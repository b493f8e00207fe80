-- Room counted down. Assumes nothing.
use Rattle.std.specs.Prelude as prelude
use Rattle.std.specs.Prelude.{Some, None, List, ℕ, ◌-◌, length, leb, if◌then◌else◌}
use Rattle.std.proofs.Math.Option.{Option, none, some}

-- what is left of a room after n bytes; none where they don't fit
unfoldable pub less : ℕ → ℕ → Option ℕ
less room n = if leb n room then some (room - n) else none

-- the same after a part
abbrev pub less_part : ℕ → List ℕ → Option ℕ
less_part room part = less room (length part)

-- what the code's answer says
abbrev pub room_of : prelude.Option ℕ → Option ℕ
room_of (Some n) = some n
room_of None = none
