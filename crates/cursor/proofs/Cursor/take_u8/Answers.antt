-- Assumes nothing.
use Rattle.cursor.proofs.TakenLaws.{number_missing, byte_read}
use Rattle.cursor.proofs.Cursor.take_u8.Goals as goal

pub returns-in_err-next : goal.returns-in_err-next
returns-in_err-next c = rw c.from_residual.ensures (number_missing 1 _ _ c.in_err-next.ensures)

pub returns : goal.returns
returns c = byte_read _ _ c.in_ok-next.ensures
