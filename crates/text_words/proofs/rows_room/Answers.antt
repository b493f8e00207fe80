-- As they come where they rise, or by windows. Assumes nothing.
use mathlib.Core.Path.{◌≡◌, sym, ap, ◌∙◌}
use mathlib.Core.List.{List, map}
use Rattle.format.specs.Records.{Record}
use Rattle.format.specs.Words.{record_words}
use Rattle.text_rows.specs.declared.Kind.{Kind}
use Rattle.text_rows.specs.Rows.{number_of, rows_from}
use Rattle.text_gather.specs.Order.{left}
use Rattle.text_words.specs.Room.{room_after}
use Rattle.text_words.proofs.PutLaws.{straight-rows}
use Rattle.text_words.proofs.rows_room.Goals as goal

pub returns-in-Rising : goal.returns-in-Rising
returns-in-Rising c =
    let a = c.args in
    let s = c.new-sorting in
    let k : rows_from (number_of a.kind) a.t.now c.in-Rising.at ≡ left a.t.now s.result =
    ap (λ (k : Kind). rows_from (number_of k) a.t.now c.in-Rising.at) (sym s.ensures.1) ∙ straight-rows a.t.now s.result c.in-Rising.at c.in-Rising.is in
    c.straight_room.ensures ∙ ap (λ (rs : List Record). room_after (map record_words rs) a.room) (k ∙ s.ensures.0)

pub returns-in-Above : goal.returns-in-Above
returns-in-Above c =
    let a = c.args in
    c.sorted_room.ensures ∙ ap (λ (rs : List Record). room_after (map record_words rs) a.room) c.new-sorting.ensures.0
