use mathlib.Core.Path.{sym, ap, ◌∙◌}
use Rattle.measuring.specs.Room.{less}
use Rattle.label_tables.proofs.RowLaws.{symbol-size}
use Rattle.label_tables.proofs.symbol_row_room.Goals as goal

pub returns : goal.returns
returns c = c.take.ensures ∙ ap (less c.args.room) (sym (symbol-size _ _ _ _ c.name_of-name.ensures.0))
