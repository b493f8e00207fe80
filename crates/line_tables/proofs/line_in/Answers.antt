use Rattle.object.specs.Access.{line_block_at}
use Rattle.line_tables.proofs.TableLaws.{line_some, line-none}
use Rattle.line_tables.proofs.line_in.Goals as goal

pub returns-in_err-offset : goal.returns-in_err-offset
returns-in_err-offset c = rw c.from_residual.ensures (line-none (line_block_at c.args.ws.now c.args.at) c.args.a c.in_err-offset.ensures)

pub returns : goal.returns
returns c =
    let a = c.args in
    line_some (line_block_at a.ws.now a.at) a.a c.in_ok-offset.offset c.number_at.result c.wrapping_add.result.0 c.number_at.ensures
    c.in_ok-offset.ensures c.wrapping_add.ensures
