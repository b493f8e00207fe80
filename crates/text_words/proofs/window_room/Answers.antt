use mathlib.Core.Path.{◌∙◌}
use mathlib.Core.List.{[], ◌∷◌}
use lib.ListN.{get_or}
use Rattle.text_rows.specs.Rows.{number_of}
use Rattle.text_words.specs.Written.{words_at}
use Rattle.text_words.proofs.PutLaws.{places_at, places-done}
use Rattle.text_words.proofs.RoomLaws.{rooms_none, rooms_short, rooms_on, one-short, one_left}
use Rattle.text_words.proofs.window_room.Goals as goal

pub returns-in_err-left : goal.returns-in_err-left
returns-in_err-left c =
    let l = c.loop-p in
    let a = c.args in
    rw c.from_residual.ensures
    (rooms_short (words_at (number_of a.kind) a.t.now (get_or a.places.now l.p-index 0) ∷ []) _ _ l.left (places_at _ _ _ c.loop-p-test.true)
    (one-short _ _ _ c.row_words.ensures c.in_err-left.ensures) ∙ l.invariant)

pub loop-p-preserved : goal.loop-p-preserved
loop-p-preserved c =
    let l = c.loop-p in
    let a = c.args in
    rooms_on (words_at (number_of a.kind) a.t.now (get_or a.places.now l.p-index 0) ∷ []) _ _ l.left (places_at _ _ _ c.loop-p-test.true) _
    (one_left _ _ _ c.row_words.ensures _ c.in_ok-left.ensures) ∙ l.invariant

pub returns : goal.returns
returns c = rooms_none _ _ (places-done _ _ _ c.loop-p-test.false) ∙ c.loop-p.invariant
