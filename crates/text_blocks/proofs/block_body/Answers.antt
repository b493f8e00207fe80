-- Question by question. Assumes nothing.
use Rattle.std.proofs.Common.{sym}
use Rattle.text_cells.proofs.NumberLaws.{number_small}
use Rattle.text_blocks.proofs.BlockLaws.{body_no0, body_no1, body_no2}
use Rattle.text_blocks.proofs.block_body.Goals as goal

pub returns-in_err-line : goal.returns-in_err-line
returns-in_err-line c = rw c.from_residual.ensures (body_no0 c.args.t.now c.args.at c.in_err-line.ensures)

pub returns-in_err-count : goal.returns-in_err-count
returns-in_err-count c = rw c.from_residual-in_err-count.ensures (body_no1 c.args.t.now c.args.at _ _ _ c.in_ok-line.ensures c.in_err-count.ensures)

pub returns-in_err-next : goal.returns-in_err-next
returns-in_err-next c =
    rw c.from_residual-in_err-next.ensures
    (body_no2 c.args.t.now c.args.at _ _ _ c.in_ok-line.ensures _ c.in_ok-count.ensures c.in_err-next.ensures)

pub overflow_cast-result : goal.overflow_cast-result
overflow_cast-result c = record { fits = number_small 10 65536 _ _ (sym c.in_ok-count.ensures) }
