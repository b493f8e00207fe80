-- Row by row, each into the rest of the room. Assumes nothing.
use borrow.Author.Rules.{rules}
use mathlib.Core.Path.{ap}
use mathlib.Core.List.{[], ◌∷◌, map}
use Prim.Native.Nat.{◌+◌, ◌-◌}
use native.Mathlib.Omega.{arith}
use lib.ListN.{length}
use borrow.Rule.Slice.PartMut.{put_mid}
use Rattle.format.specs.Words.{record_words}
use Rattle.text_rows.specs.Rows.{number_of, rows_from}
use Rattle.text_words.specs.Written.{words_at}
use Rattle.text_words.proofs.PutLaws.{Puts, puts_begin, puts_on, puts_end, put_one, found-words}
use Rattle.text_words.proofs.put_straight.Goals as goal
use Rattle.text_words.proofs.put_straight.Goals.{After-put_row-at}

next : (c : After-put_row-at) →
    let l = c.loop-row in
    let a = c.args in
    let rows = rows_from (number_of a.kind) a.t.now in
    Puts (map record_words (rows c.in-Some.row.next)) (map record_words (rows a.from))
    a.out.now (put_mid l.at (length l.out - l.at) l.out c.put_row-at.new.out) (l.at + c.put_row-at.result)
next c =
    let a = c.args in
    puts_on (words_at (number_of a.kind) a.t.now c.in-Some.row.at ∷ []) _ _ _ _ _ _ _ _ c.loop-row.invariant (found-words _ _ _ _ _ c.in-Some.ensures.0) (put_one _ _ _ _ c.put_row-at.ensures)

pub returns : goal.returns
returns c = puts_end _ _ _ _ _ c.loop-row.invariant (ap (map record_words) c.in_default.ensures)

pub offset_bounds-out-at : goal.offset_bounds-out-at
offset_bounds-out-at c = let p = c.loop-row.invariant in let h = p.inside in let k = p.long in search rules

pub overflow_add-at : goal.overflow_add-at
overflow_add-at c = let q = next (goal.at.overflow_add-at c).After-put_row-at in record { fits = omega (arith, q.inside, q.long) }

pub loop-row-smaller : goal.loop-row-smaller
loop-row-smaller c = let f = c.in-Some.ensures.0 in omega (arith, f.from, f.on, f.inside)

pub loop-row-init : goal.loop-row-init
loop-row-init c = puts_begin _ _

pub shape_of-out : goal.shape_of-out
shape_of-out c = c.loop-row.invariant.long

pub slice_bounds-put_row-count : goal.slice_bounds-put_row-count
slice_bounds-put_row-count c = c.loop-row.invariant.inside

pub slice_bounds-put_row-start : goal.slice_bounds-put_row-start
slice_bounds-put_row-start c = c.loop-row.invariant.inside

pub loop-row-preserved : goal.loop-row-preserved
loop-row-preserved c = next (goal.at.loop-row-preserved c).After-put_row-at
