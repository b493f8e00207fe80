-- A line of bytes that stand for themselves, or any other. Assumes nothing.
use borrow.Author.Rules.{rules}
use mathlib.Core.Path.{sym, subst}
use mathlib.Core.List.{List}
use Prim.Native.Nat.{ℕ, ◌^◌, ◌<◌}
use Rattle.writing.specs.Written.{Put}
use Rattle.text_numerals.specs.Memory.{word_of}
use Rattle.text_escape.specs.Rows.{line_line, PlainLine}
use Rattle.text_runs_out.proofs.StartLaws.{plain_next, plain_cell_lem}
use Rattle.text_runs_out.proofs.put_row.Goals as goal
use Rattle.text_runs_out.proofs.put_row.Goals.{Else-t-end}

abbrev ws : (c : Else-t-end) → List ℕ
ws c = c.args.ws.now

abbrev end : (c : Else-t-end) → ℕ
end c = c.plain_line-end.result

plain : (c : Else-t-end) → PlainLine (ws c) c.args.t.text c.args.t.n c.args.start (end c)
plain c = c.plain_line-end.ensures c.if-t-end.false

few : (c : Else-t-end) → c.args.t.n < 2 ^ 64
few c = search rules

pub returns : goal.returns
returns c =
    let a = c.args in (
      subst (λ (x : List ℕ). Put (line_line a.t.width a.row.number (word_of a.row.address) x) a.out.now
          c.put_plain_row-len.result c.put_plain_row-len.new.out)
          (sym (plain_cell_lem (ws (goal.at.returns c).Else-t-end) a.t.text a.t.n a.start (end (goal.at.returns c).Else-t-end) c.if-t-end.false (few (goal.at.returns c).Else-t-end) (plain (goal.at.returns c).Else-t-end))) c.put_plain_row-len.ensures,
      sym (plain_next (ws (goal.at.returns c).Else-t-end) a.t.text a.t.n a.start (end (goal.at.returns c).Else-t-end) c.if-t-end.false (few (goal.at.returns c).Else-t-end) (plain (goal.at.returns c).Else-t-end)),
    )
