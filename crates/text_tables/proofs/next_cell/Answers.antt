use native.Mathlib.Omega.{arith}
use Rattle.text_tables.proofs.CellLaws.{cell_room, cell-last, cell-more}
use Rattle.text_tables.proofs.next_cell.Goals as goal

pub overflow_sub-n : goal.overflow_sub-n
overflow_sub-n c = omega (arith, c.first_cell-c.ensures.ordered)

pub overflow_sub-l-2 : goal.overflow_sub-l-2
overflow_sub-l-2 c = omega (arith, cell_room _ _ _ _ c.requires c.first_cell-c.ensures)

pub returns-then-l-at-lt3 : goal.returns-then-l-at-lt3
returns-then-l-at-lt3 c = cell-last _ _ _ _ c.requires c.first_cell-c.ensures c.trim-s.result c.trim-s.ensures c.if-l-at-lt3.true

pub returns : goal.returns
returns c = cell-more _ _ _ _ c.requires c.first_cell-c.ensures c.trim-s.result c.trim-s.ensures c.if-l-at-lt3.false
