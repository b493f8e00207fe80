-- What stands after two cells of four bytes, or the cell is found. Assumes nothing.
use Rattle.text_cells.proofs.CellLaws.{spans-rest, third-four}
use Rattle.text_cells.proofs.third_cell.Goals as goal

pub returns-then-is_four_wide-2 : goal.returns-then-is_four_wide-2
returns-then-is_four_wide-2 c =
    let s = c.args.s.now in
    spans-rest s _ 14 c.if-s-ge14.true
    (third-four s (c.is_four_wide.ensures c.if-is_four_wide.true) (c.is_four_wide-then-is_four_wide.ensures c.if-is_four_wide-2.true))
