use native.Mathlib.Omega.{arith}
use Prim.Native.Nat.{ℕ, ◌+◌}
use lib.ListN.{length}
use Rattle.format.specs.TextWriter.{decimal, to_right}
use Rattle.measuring.proofs.RoomLaws.{fits-then, short-then}
use Rattle.text_escape.proofs.measure_plain_row.Goals as goal
use Rattle.text_escape.proofs.measure_plain_row.Goals.{Start}

-- the head and the cell
abbrev left : Start → ℕ
left s = length (to_right s.args.width (decimal s.args.number)) + s.args.len

pub returns-in_err-left : goal.returns-in_err-left
returns-in_err-left c =
    let s = (goal.at.returns-in_err-left c).Start in
    rw c.from_residual.ensures (short-then c.args.room 13 (left s) (omega arith) c.in_err-left.ensures)

pub returns-in_err-rest : goal.returns-in_err-rest
returns-in_err-rest c =
    let s = (goal.at.returns-in_err-rest c).Start in
    rw c.from_residual-in_err-rest.ensures
    (fits-then c.args.room 13 (left s) (omega arith) c.in_ok-left.ensures
    (short-then c.in_ok-left.left c.column.result c.args.len (omega (arith, c.column.ensures)) c.in_err-rest.ensures))

pub returns : goal.returns
returns c =
    let s = (goal.at.returns c).Start in
    fits-then c.args.room 13 (left s) (omega arith) c.in_ok-left.ensures
    (fits-then c.in_ok-left.left c.column.result c.args.len (omega (arith, c.column.ensures)) c.in_ok-rest.ensures c.take-3.ensures)
