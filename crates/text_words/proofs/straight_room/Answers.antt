-- Row by row, each out of the room that is left. Assumes nothing.
use mathlib.Core.Path.{ap, ◌∙◌}
use mathlib.Core.List.{[], ◌∷◌, map}
use native.Mathlib.Omega.{arith}
use Rattle.format.specs.Words.{record_words}
use Rattle.text_rows.specs.Rows.{number_of}
use Rattle.text_words.specs.Written.{words_at}
use Rattle.text_words.proofs.PutLaws.{found-words}
use Rattle.text_words.proofs.RoomLaws.{rooms_none, rooms_short, rooms_on, one-short, one_left}
use Rattle.text_words.proofs.straight_room.Goals as goal

pub returns : goal.returns
returns c = rooms_none _ _ (ap (map record_words) c.in_default.ensures) ∙ c.loop-row.invariant

pub returns-in_err-left : goal.returns-in_err-left
returns-in_err-left c =
    let a = c.args in
    rw c.from_residual.ensures
    (rooms_short (words_at (number_of a.kind) a.t.now c.in-Some.row.at ∷ []) _ _ _ (found-words _ _ _ _ _ c.in-Some.ensures.0)
    (one-short _ _ _ c.row_words.ensures c.in_err-left.ensures) ∙ c.loop-row.invariant)

pub loop-row-preserved : goal.loop-row-preserved
loop-row-preserved c =
    let a = c.args in
    rooms_on (words_at (number_of a.kind) a.t.now c.in-Some.row.at ∷ []) _ _ _ (found-words _ _ _ _ _ c.in-Some.ensures.0) _
    (one_left _ _ _ c.row_words.ensures _ c.in_ok-left.ensures) ∙ c.loop-row.invariant

pub loop-row-smaller : goal.loop-row-smaller
loop-row-smaller c = let f = c.in-Some.ensures.0 in omega (arith, f.from, f.on, f.inside)
