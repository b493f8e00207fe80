use mathlib.Core.Path.{◌∙◌}
use mathlib.Core.List.{[], ◌∷◌}
use Rattle.format.specs.Records.{label}
use Rattle.format.specs.Words.{record_words}
use Rattle.text_words.proofs.RoomLaws.{rooms_none, rooms_short, rooms_on, room-one}
use Rattle.label_items.specs.Items.{label_of}
use Rattle.label_items.proofs.ItemLaws.{words_at_lem, words-done}
use Rattle.label_items.proofs.cached_room.Goals as goal

pub returns-in_err-left : goal.returns-in_err-left
returns-in_err-left c =
    let a = c.args in
    rw c.from_residual.ensures
    (rooms_short (record_words (label (label_of a.t.now c.item_at.result)) ∷ []) _ _ c.loop-i.left
    (words_at_lem a.t.now a.items.now a.n c.loop-i.i c.item_at.result c.loop-i-test.true c.item_at.ensures)
    (room-one _ _ _ c.in_err-left.ensures) ∙ c.loop-i.invariant)

pub loop-i-preserved : goal.loop-i-preserved
loop-i-preserved c =
    let a = c.args in
    rooms_on (record_words (label (label_of a.t.now c.item_at.result)) ∷ []) _ _ c.loop-i.left
    (words_at_lem a.t.now a.items.now a.n c.loop-i.i c.item_at.result c.loop-i-test.true c.item_at.ensures) _
    (room-one _ _ _ c.in_ok-left.ensures) ∙ c.loop-i.invariant

pub returns : goal.returns
returns c =
    let a = c.args in
    rooms_none _ _ (words-done a.t.now a.items.now a.n c.loop-i.i c.loop-i-test.false) ∙ c.loop-i.invariant
