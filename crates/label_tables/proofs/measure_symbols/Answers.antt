use mathlib.Core.Path.{◌≡◌, sym, ap, ◌∙◌}
use mathlib.Core.List.{flat_map}
use Prim.Native.Nat.{◌+◌}
use lib.ListN.{length}
use Rattle.format.specs.TextWriter.{symbol_header}
use Rattle.measuring.specs.Room.{less_part}
use Rattle.measuring.proofs.RoomLaws.{less-nothing, fits-then, short-then}
use Rattle.label_order.specs.Labels.{places_from, label_places}
use Rattle.label_order.proofs.PlaceLaws.{found-next, found_none}
use Rattle.label_tables.specs.Rows.{symbol_line}
use Rattle.label_tables.specs.Tables.{symbols_length}
use Rattle.label_tables.proofs.FrameLaws.{table_none, table_size, symbol-header}
use Rattle.label_tables.proofs.measure_symbols.Goals as goal
use Rattle.label_tables.proofs.measure_symbols.Goals.{In-Some}

-- where there is a label
size : (c : In-Some) → let ws = c.args.ws.now in
    symbols_length ws ≡ 19 + length (flat_map (symbol_line ws) (label_places ws))
unfolding label_places
size c =
    let ws = c.args.ws.now in
    table_size symbol_header (symbol_line ws) (label_places ws) (label_places ws) 19 c.in-Some.field-0.0 (places_from ws c.in-Some.field-0.1)
    (found-next ws 0 c.next_label.result c.next_label.ensures.0 c.in-Some.field-0.0 c.in-Some.field-0.1 c.in-Some.is) (ap length (sym symbol-header))

pub returns-in_default : goal.returns-in_default
unfolding label_places
returns-in_default c =
    let a = c.args in
    let ws = a.ws.now in
    let e = found_none ws 0 c.next_label.result c.next_label.ensures.0 c.in_default.is in
    less-nothing a.room
    ∙ ap (less_part a.room) (sym (table_none symbol_header (symbol_line ws) (label_places ws) (label_places ws) e))

pub returns-in_err-left : goal.returns-in_err-left
returns-in_err-left c =
    rw c.from_residual.ensures (short-then c.args.room 19 _ (size (goal.at.returns-in_err-left c).In-Some) c.in_err-left.ensures)

pub returns : goal.returns
returns c = fits-then c.args.room 19 _ (size (goal.at.returns c).In-Some) c.in_ok-left.ensures c.rows_room.ensures
