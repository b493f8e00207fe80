-- With room for few, or once more with room for many. Assumes nothing.
use mathlib.Core.Path.{◌≡◌, sym, ap, ◌∙◌}
use native.Mathlib.Omega.{arith}
use Rattle.known_labels.proofs.KnownLaws.{held-room}
use Rattle.known_labels.proofs.+room_by.Invariants.{turns}
use Rattle.known_labels.proofs.+room_by.Goals as goal

-- few are enough
pub returns-in-Some : goal.returns-in-Some
returns-in-Some t c = held-room _ c.gather.new.items _ c.in-Some.ensures _ _ c.cached_room.ensures

-- no more turns after the next
pub room_by-requires : goal.room_by-requires
room_by-requires t c =
    let h : 1 ≡ t = ap turns (sym c.if-many.false) ∙ c.decreases in
    omega (arith, h)
