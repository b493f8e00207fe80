use mathlib.Core.Path.{ap, ◌∙◌}
use Prim.Native.Nat.{◌-◌}
use Rattle.measuring.specs.Room.{less}
use Rattle.measuring.proofs.RoomLaws.{fits-then, short-then}
use Rattle.text_lines_out.proofs.LineLaws.{header-length}
use Rattle.text_lines_out.proofs.measure_line_header.Goals as goal

pub returns-in_err-left : goal.returns-in_err-left
returns-in_err-left c =
    let a = c.args in rw c.from_residual.ensures (short-then a.room 21 (a.width - 4) (header-length a.width) c.in_err-left.ensures)

pub returns : goal.returns
returns c =
    let a = c.args in
    fits-then a.room 21 (a.width - 4) (header-length a.width) c.in_ok-left.ensures
    (c.take-2.ensures ∙ ap (less c.in_ok-left.left) c.saturating_sub.ensures)
