-- A line of bytes that stand for themselves, or any other. Assumes nothing.
use borrow.Author.Rules.{rules}
use mathlib.Core.Path.{◌≡◌, sym, ap, ◌∙◌}
use mathlib.Core.List.{List}
use Prim.Native.Nat.{ℕ, ◌+◌, ◌-◌, ◌^◌, ◌<◌}
use Rattle.text_numerals.specs.Memory.{word_of}
use lib.ListN.{length}
use Rattle.format.specs.TextWriter.{decimal, to_right}
use Rattle.measuring.specs.Room.{less, less_part}
use Rattle.text_escape.specs.Rows.{PlainLine}
use Rattle.text_runs_out.specs.Lines.{line_at}
use Rattle.text_runs_out.proofs.StartLaws.{plain_next, plain_size}
use Rattle.text_runs_out.proofs.measure_row.Goals as goal
use Rattle.text_runs_out.proofs.measure_row.Goals.{Else-t-end}

abbrev ws : (c : Else-t-end) → List ℕ
ws c = c.args.ws.now

abbrev end : (c : Else-t-end) → ℕ
end c = c.plain_line-end.result

plain : (c : Else-t-end) → PlainLine (ws c) c.args.t.text c.args.t.n c.args.start (end c)
plain c = c.plain_line-end.ensures c.if-t-end.false

few : (c : Else-t-end) → c.args.t.n < 2 ^ 64
few c = search rules

size : (c : Else-t-end) → let a = c.args in
    less a.room (13 + length (to_right a.t.width (decimal a.row.number)) + (end c - a.start))
    ≡ less_part a.room (line_at (ws c) a.t a.row.number (word_of a.row.address) a.start)
size c =
    let a = c.args in
    ap (less a.room) (plain_size (ws c) a.t.text a.t.n a.start (end c) c.if-t-end.false (few c) (plain c) a.t.width a.row.number
    (word_of a.row.address))

pub returns-in_err-left : goal.returns-in_err-left
returns-in_err-left c =
    rw c.from_residual.ensures (c.in_err-left.ensures ∙ size (goal.at.returns-in_err-left c).Else-t-end)

pub returns : goal.returns
returns c =
    let a = c.args in
    let e = (goal.at.returns c).Else-t-end in (
      c.in_ok-left.ensures ∙ size e,
      sym (plain_next (ws e) a.t.text a.t.n a.start (end e) c.if-t-end.false (few e) (plain e)),
    )
