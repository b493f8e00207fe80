use mathlib.Core.Path.{◌∙◌}
use Prim.Native.Nat.{◌+◌}
use Rattle.measuring.proofs.RoomLaws.{said}
use Rattle.label_tables.proofs.is_room.Goals as goal

pub returns : goal.returns
returns c =
    let a = c.args in c.is_some.ensures ∙ said a.room (a.a + a.b + a.c) c.take_three.result c.take_three.ensures
