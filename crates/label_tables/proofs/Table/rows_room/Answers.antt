use mathlib.Core.Path.{refl, ◌∙◌}
use Rattle.label_order.specs.Labels.{places_from, label_places}
use Rattle.label_order.proofs.PlaceLaws.{found-next, found_none}
use Rattle.label_tables.specs.Tables.{line_of}
use Rattle.label_tables.proofs.RoomLaws.{row-left, row-short, rows_none}
use Rattle.label_tables.proofs.Table.rows_room.Goals as goal

pub loop-p-init : goal.loop-p-init
unfolding label_places
loop-p-init c = refl

pub returns : goal.returns
returns c =
    let a = c.args in
    let ws = a.ws.now in
    let l = c.loop-p in
    rows_none (line_of a.self ws) (places_from ws l.at) l.left (found_none ws l.at _ c.next_label.ensures.0 c.in_default.is) ∙ l.invariant

pub returns-in_err-left : goal.returns-in_err-left
returns-in_err-left c =
    let a = c.args in
    let ws = a.ws.now in
    let l = c.loop-p in
    let f = c.in-Some in
    rw c.from_residual.ensures
    (row-short (line_of a.self ws) (places_from ws l.at) (places_from ws f.next) f.p
    (found-next ws l.at c.next_label.result c.next_label.ensures.0 f.p f.next f.is) l.left c.in_err-left.ensures ∙ l.invariant)

pub loop-p-preserved : goal.loop-p-preserved
loop-p-preserved c =
    let a = c.args in
    let ws = a.ws.now in
    let l = c.loop-p in
    let f = c.in-Some in
    row-left (line_of a.self ws) (places_from ws l.at) (places_from ws f.next) f.p
    (found-next ws l.at c.next_label.result c.next_label.ensures.0 f.p f.next f.is) l.left c.in_ok-left.ensures ∙ l.invariant
