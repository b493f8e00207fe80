use Rattle.measuring.proofs.RoomLaws.{checked}
use Rattle.measuring.proofs.take.Goals as goal

pub returns : goal.returns
returns c = checked _ _ _ c.checked_sub.ensures
