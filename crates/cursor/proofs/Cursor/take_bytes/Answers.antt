-- Assumes nothing.
use Rattle.cursor.proofs.TakenLaws.{bytes_missing, bytes-there}
use Rattle.cursor.proofs.Cursor.take_bytes.Goals as goal

pub returns-in_err-next-clause-places : goal.returns-in_err-next-clause-places
returns-in_err-next-clause-places c = rw c.from_residual.ensures (bytes_missing c.args.n _ _ c.in_err-next.ensures)

pub returns-clause-places : goal.returns-clause-places
returns-clause-places c = bytes-there c.args.n _ _ c.in_ok-next.ensures
