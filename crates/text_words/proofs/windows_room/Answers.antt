use mathlib.Core.Path.{refl, ap}
use Rattle.text_rows.specs.Rows.{number_of}
use Rattle.text_words.proofs.RoomLaws.{rooms_fit, rooms_lack, rooms_next, rooms_end, rooms_less}
use Rattle.text_words.proofs.windows_room.Goals as goal

pub loop-left-init : goal.loop-left-init
loop-left-init c = record { same_kind = refl; window = refl; same = refl }

pub slice_bounds-window_room-end : goal.slice_bounds-window_room-end
slice_bounds-window_room-end c =
    rooms_fit _ _ _ _ _ _ _ _ _ _ _ _ c.loop-left.invariant c.next_window-sorting.ensures.0 c.next_window-sorting.auto.win

pub returns-in_err-left : goal.returns-in_err-left
returns-in_err-left c =
    rw c.from_residual.ensures
    (rooms_lack _ _ _ _ _ _ _ _ _ _ _ _ c.loop-left.invariant c.next_window-sorting.ensures.0 c.next_window-sorting.auto.win c.in_err-left.ensures)

pub returns-then-sorting-win : goal.returns-then-sorting-win
returns-then-sorting-win c =
    rooms_end _ _ _ _ _ _ _ _ _ _ _ _ c.loop-left.invariant c.next_window-sorting.ensures.0 c.next_window-sorting.auto.win _ c.in_ok-left.ensures c.if-sorting-win.true

pub loop-left-smaller : goal.loop-left-smaller
loop-left-smaller c =
    rooms_less _ _ _ _ _ _ _ _ _ _ _ _ c.loop-left.invariant c.next_window-sorting.ensures.0 c.next_window-sorting.auto.win c.if-sorting-win.false c.requires

pub loop-left-preserved : goal.loop-left-preserved
loop-left-preserved c =
    rooms_next _ _ _ _ _ _ _ _ _ _ _ _ c.loop-left.invariant c.next_window-sorting.ensures.0 c.next_window-sorting.auto.win _ c.in_ok-left.ensures _ (ap number_of c.next_window-sorting.ensures.1)
