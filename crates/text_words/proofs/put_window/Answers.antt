use borrow.Author.Rules.{rules}
use mathlib.Core.List.{[], ◌∷◌, map}
use Prim.Native.Nat.{◌+◌, ◌-◌}
use native.Mathlib.Omega.{arith}
use lib.ListN.{length, drop, get_or}
use borrow.Rule.Slice.PartMut.{put_mid}
use Rattle.text_rows.specs.Rows.{number_of}
use Rattle.text_words.specs.Written.{words_at}
use Rattle.text_words.proofs.PutLaws.{Puts, puts_begin, puts_on, puts_end, put_one, places_at, places-done}
use Rattle.text_words.proofs.put_window.Goals as goal
use Rattle.text_words.proofs.put_window.Goals.{After-put_row-at}

next : (c : After-put_row-at) →
    let l = c.loop-p in
    let a = c.args in
    let f = words_at (number_of a.kind) a.t.now in
    Puts (map f (drop (l.p-index + 1) a.places.now)) (map f a.places.now)
    a.out.now (put_mid l.at (length l.out - l.at) l.out c.put_row-at.new.out) (l.at + c.put_row-at.result)
next c =
    let l = c.loop-p in
    let a = c.args in
    puts_on (words_at (number_of a.kind) a.t.now (get_or a.places.now l.p-index 0) ∷ []) _ _ _ _ _ _ _ _ l.invariant (places_at _ _ _ c.loop-p-test.true) (put_one _ _ _ _ c.put_row-at.ensures)

pub loop-p-init : goal.loop-p-init
loop-p-init c = puts_begin _ _

pub offset_bounds-out-at : goal.offset_bounds-out-at
offset_bounds-out-at c = let h = c.loop-p.invariant.inside in let k = c.loop-p.invariant.long in search rules

pub slice_bounds-put_row-count : goal.slice_bounds-put_row-count
slice_bounds-put_row-count c = c.loop-p.invariant.inside

pub slice_bounds-put_row-start : goal.slice_bounds-put_row-start
slice_bounds-put_row-start c = c.loop-p.invariant.inside

pub overflow_add-at : goal.overflow_add-at
overflow_add-at c = let q = next (goal.at.overflow_add-at c).After-put_row-at in record { fits = omega (arith, q.inside, q.long) }

pub loop-p-preserved : goal.loop-p-preserved
loop-p-preserved c = next (goal.at.loop-p-preserved c).After-put_row-at

pub shape_of-out : goal.shape_of-out
shape_of-out c = c.loop-p.invariant.long

pub returns : goal.returns
returns c = puts_end _ _ _ _ _ c.loop-p.invariant (places-done _ _ _ c.loop-p-test.false)
