use mathlib.Core.Path.{ap, ◌∙◌}
use mathlib.Core.List.{List}
use Prim.Native.Nat.{ℕ}
use Rattle.std.specs.Prelude.{Some, None}
use Rattle.text_words.specs.Room.{room_after}
use Rattle.text_words.proofs.RoomLaws.{rooms_none, room_taken}
use Rattle.text_read.proofs.PartLaws.{relocations-none, relocations_some, others-short, others-on}
use Rattle.text_read.proofs.others_room.Goals as goal

pub returns-in_err-left : goal.returns-in_err-left
returns-in_err-left c = rw c.from_residual.ensures (others-short _ _ _ (room_taken _ _ None c.in_err-left.ensures))

pub returns-then-not-kept : goal.returns-then-not-kept
returns-then-not-kept c =
    others-on _ _ _ _ (room_taken _ _ (Some c.in_ok-left.left) c.in_ok-left.ensures) _ (rooms_none _ _ (relocations-none _ _ c.if-not-kept.true))

pub returns : goal.returns
returns c =
    others-on _ _ _ _ (room_taken _ _ (Some c.in_ok-left.left) c.in_ok-left.ensures) _
    (c.rows_room.ensures ∙ ap (λ (ps : List (List ℕ)). room_after ps c.in_ok-left.left) (relocations_some _ _ c.if-not-kept.false))
