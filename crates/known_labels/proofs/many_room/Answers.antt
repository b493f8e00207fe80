use Rattle.known_labels.proofs.KnownLaws.{held-room}
use Rattle.known_labels.proofs.many_room.Goals as goal

pub returns : goal.returns
returns c = held-room _ c.gather.new.items _ c.in-Some.ensures _ _ c.cached_room.ensures

pub returns-in_default : goal.returns-in_default
returns-in_default c = c.labels_room.ensures
