use Rattle.known_labels.proofs.KnownLaws.{held-room}
use Rattle.text_read.proofs.known_room.Goals as goal

pub returns-in-Some : goal.returns-in-Some
returns-in-Some c = held-room _ c.args.items.now _ (rw c.in-Some.is at c.requires) _ _ c.cached_room.ensures

pub returns-in-None : goal.returns-in-None
returns-in-None c = c.labels_room.ensures
