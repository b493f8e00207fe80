use mathlib.Core.Path.{sym, ap, ◌∙◌}
use Rattle.measuring.specs.Room.{less}
use Rattle.label_tables.proofs.RowLaws.{label-size}
use Rattle.label_tables.proofs.label_row_room.Goals as goal

pub returns : goal.returns
returns c =
    let a = c.args in
    let n = c.name_of-name in
    c.take_three.ensures
    ∙ ap (less a.room)
    (sym (label-size a.ws.now a.p n.result.at n.result.len n.ensures.0 a.widths.names a.widths.indices c.fill_of-fill.result c.start_at.result
    c.right_len-right.result c.fill_of-fill.ensures c.start_at.ensures c.right_len-right.ensures))
