use native.Mathlib.Omega.{arith}
use mathlib.Core.Path.{◌≡◌}
use Prim.Native.Nat.{ℕ, ◌+◌}
use lib.ListN.{length}
use Rattle.format.specs.TextWriter.{decimal, to_right}
use Rattle.text_numerals.specs.Memory.{word_of}
use Rattle.measuring.proofs.RoomLaws.{fits-then, short-then}
use Rattle.text_escape.specs.Escaped.{escaped_in}
use Rattle.text_escape.specs.Rows.{line_line}
use Rattle.text_escape.proofs.EscapeLaws.{line-length}
use Rattle.text_escape.proofs.measure_line_row.Goals as goal
use Rattle.text_escape.proofs.measure_line_row.Goals.{Start}

-- the head and the cell
abbrev left : Start → ℕ
left s =
    length (to_right s.args.width (decimal s.args.row.number)) + length (escaped_in s.args.ws.now s.args.at s.args.start s.args.end)

size : (s : Start) →
    length (line_line s.args.width s.args.row.number (word_of s.args.row.address) (escaped_in s.args.ws.now s.args.at s.args.start s.args.end))
    ≡ 11 + left s
size s =
    let a = s.args in
    omega (arith, line-length a.width a.row.number (word_of a.row.address) (escaped_in a.ws.now a.at a.start a.end))

pub returns-in_err-left : goal.returns-in_err-left
returns-in_err-left c =
    let s = (goal.at.returns-in_err-left c).Start in rw c.from_residual.ensures (short-then c.args.room 11 (left s) (size s) c.in_err-left.ensures)

pub returns-in_err-rest : goal.returns-in_err-rest
returns-in_err-rest c =
    let s = (goal.at.returns-in_err-rest c).Start in
    rw c.from_residual-in_err-rest.ensures
    (fits-then c.args.room 11 (left s) (size s) c.in_ok-left.ensures
    (short-then c.in_ok-left.left c.column.result (length (escaped_in c.args.ws.now c.args.at c.args.start c.args.end))
    (omega (arith, c.column.ensures)) c.in_err-rest.ensures))

pub returns : goal.returns
returns c =
    let s = (goal.at.returns c).Start in
    fits-then c.args.room 11 (left s) (size s) c.in_ok-left.ensures
    (fits-then c.in_ok-left.left c.column.result (length (escaped_in c.args.ws.now c.args.at c.args.start c.args.end))
    (omega (arith, c.column.ensures)) c.in_ok-rest.ensures c.measure_escaped.ensures)
