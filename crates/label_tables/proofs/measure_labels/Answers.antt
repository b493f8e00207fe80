use mathlib.Core.Path.{◌≡◌, sym, ap, ◌∙◌}
use mathlib.Core.List.{List, flat_map}
use Prim.Native.Nat.{ℕ, ◌+◌}
use lib.ListN.{length}
use Rattle.format.specs.TextWriter.{label_header}
use Rattle.measuring.specs.Room.{less_part}
use Rattle.measuring.proofs.RoomLaws.{less-nothing, fits-then, short-then}
use Rattle.label_order.specs.Labels.{places_from, label_places}
use Rattle.label_order.proofs.PlaceLaws.{found-next, found_none}
use Rattle.label_tables.specs.Rows.{label_line}
use Rattle.label_tables.specs.Tables.{columns_length}
use Rattle.label_tables.proofs.FrameLaws.{table_none, table_size, label-header-size}
use Rattle.label_tables.proofs.measure_labels.Goals as goal
use Rattle.label_tables.proofs.measure_labels.Goals.{After-past_header-b}

abbrev ws : (t : After-past_header-b) → List ℕ
ws t = t.args.ws.now

abbrev names : (t : After-past_header-b) → ℕ
names t = t.args.widths.names

abbrev indices : (t : After-past_header-b) → ℕ
indices t = t.args.widths.indices

abbrev head : (t : After-past_header-b) → ℕ
head t = 14 + t.past_header-a.result + t.past_header-b.result

abbrev lines : (t : After-past_header-b) → ℕ
lines t = length (flat_map (label_line (names t) (indices t) (ws t)) (label_places (ws t)))

size : (t : After-past_header-b) → columns_length (names t) (indices t) (ws t) ≡ (head t) + (lines t)
unfolding label_places
size t =
    table_size (label_header (names t) (indices t)) (label_line (names t) (indices t) (ws t)) (label_places (ws t)) (label_places (ws t)) (head t) t.in-Some.field-0.0
    (places_from (ws t) t.in-Some.field-0.1)
    (found-next (ws t) 0 t.next_label.result t.next_label.ensures.0 t.in-Some.field-0.0 t.in-Some.field-0.1 t.in-Some.is)
    (label-header-size (names t) (indices t) t.past_header-a.result t.past_header-b.result
    t.past_header-a.ensures t.past_header-b.ensures)

pub returns-in_default : goal.returns-in_default
unfolding label_places
returns-in_default c =
    let a = c.args in
    let ws = a.ws.now in
    let e = found_none ws 0 c.next_label.result c.next_label.ensures.0 c.in_default.is in
    less-nothing a.room
    ∙ ap (less_part a.room)
    (sym (table_none (label_header a.widths.names a.widths.indices) (label_line a.widths.names a.widths.indices ws) (label_places ws) (label_places ws) e))

pub returns-in_err-left : goal.returns-in_err-left
returns-in_err-left c =
    let t = (goal.at.returns-in_err-left c).After-past_header-b in
    rw c.from_residual.ensures (short-then c.args.room (head t) (lines t) (size t) c.in_err-left.ensures)

pub returns : goal.returns
returns c =
    let t = (goal.at.returns c).After-past_header-b in
    fits-then c.args.room (head t) (lines t) (size t) c.in_ok-left.ensures c.rows_room.ensures
