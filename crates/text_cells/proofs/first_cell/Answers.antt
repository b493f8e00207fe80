-- Up to the next divider, or all that is left. Assumes nothing.
use native.Mathlib.Omega.{arith}
use mathlib.Core.Path.{sym}
use lib.ListN.{drop}
use Rattle.text_cells.specs.Cells.{Cut}
use Rattle.std.specs.Prelude.{Some}
use Rattle.text_cells.proofs.CellLaws.{cell-past, cell_last0, cell_last1, cell_cut, none-there, some_there, spans-none, spans-rest, spans-first}
use Rattle.text_cells.proofs.first_cell.Goals as goal
use Rattle.text_cells.proofs.first_cell.Goals.{In-Some}

there : (c : In-Some) → Cut (drop c.args.at c.args.s.now) (Some c.in-Some.p)
there c = some_there c.args.s.now c.args.at _ c.in-Some.ensures

pub returns-then-n-at : goal.returns-then-n-at
returns-then-n-at c = let k = c.args in spans-none _ _ (cell-past k.s.now k.at k.k c.if-n-at.true)

pub returns-then-k-eq0 : goal.returns-then-k-eq0
returns-then-k-eq0 c =
    let k = c.args in
    spans-rest _ _ k.at c.if-n-at.false (sym (cell_last0 _ k.k 0 c.if-k-eq0.true (omega arith)))

pub returns-in_default : goal.returns-in_default
returns-in_default c =
    let k = c.args in
    spans-rest _ _ k.at c.if-n-at.false
    (sym (cell_last1 _ k.k 0 c.if-k-eq0.false (none-there k.s.now k.at c.in_default.ensures) (omega arith)))

pub returns : goal.returns
returns c =
    let k = c.args in
    spans-first _ _ k.at _ c.if-n-at.false (there (goal.at.returns c).In-Some).0 (sym (cell_cut _ k.k 0 c.in-Some.p c.if-k-eq0.false (there (goal.at.returns c).In-Some).1 (omega arith)))
