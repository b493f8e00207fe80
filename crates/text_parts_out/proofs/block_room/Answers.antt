-- Address, count, and five bytes for each word. Assumes nothing.
use native.Mathlib.Omega.{arith}
use mathlib.Core.Path.{ap, ◌∙◌}
use Prim.Native.Nat.{ℕ, ◌+◌, ◌*◌}
use lib.ListN.{length}
use Rattle.format.specs.TextWriter.{decimal}
use Rattle.measuring.specs.Room.{less}
use Rattle.measuring.proofs.RoomLaws.{fits-then, short-then, less_none}
use Rattle.text_parts_out.proofs.PartLaws.{decimal-short}
use Rattle.text_parts_out.proofs.block_room.Goals as goal

pub overflow_add-count_digits : goal.overflow_add-count_digits
overflow_add-count_digits c = record { fits = omega (arith, c.count_digits.ensures, decimal-short c.args.count) }

pub returns-in_err-left : goal.returns-in_err-left
returns-in_err-left c =
    rw c.from_residual.ensures
    (short-then c.args.room (c.count_digits.result + 6) (5 * c.args.count) (omega (arith, c.count_digits.ensures)) c.in_err-left.ensures)

pub returns-in_err-words : goal.returns-in_err-words
returns-in_err-words c =
    let n : ℕ = length (decimal c.args.count) + 6 + 5 * c.args.count in
    rw c.from_residual-in_err-words.ensures (less_none c.args.room n (omega (arith, c.in_err-words.ensures, c.ranges.room.fits)))

pub returns : goal.returns
returns c =
    fits-then c.args.room (c.count_digits.result + 6) (5 * c.args.count) (omega (arith, c.count_digits.ensures)) c.in_ok-left.ensures
    (c.take-2.ensures ∙ ap (less c.in_ok-left.left) (omega (arith, c.in_ok-words.ensures.1)))
