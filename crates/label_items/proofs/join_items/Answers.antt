use mathlib.Core.Path.{refl}
use Rattle.label_items.specs.Joins.{joined_item}
use Rattle.label_items.proofs.join_items.Goals as goal

pub returns-in-Symbol : goal.returns-in-Symbol
unfolding joined_item
returns-in-Symbol c = rw c.in-Symbol.is refl

pub returns-in-Start : goal.returns-in-Start
unfolding joined_item
returns-in-Start c = rw c.in-Start.is refl

pub returns-in-Both : goal.returns-in-Both
unfolding joined_item
returns-in-Both c = rw c.in-Both.is refl
