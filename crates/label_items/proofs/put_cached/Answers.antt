use mathlib.Core.List.{[], ◌∷◌}
use Prim.Native.Nat.{◌+◌, ◌-◌}
use native.Mathlib.Omega.{arith}
use lib.ListN.{length}
use borrow.Rule.Slice.PartMut.{put_mid}
use Rattle.format.specs.Records.{label}
use Rattle.format.specs.Words.{record_words}
use Rattle.text_words.proofs.PutLaws.{Puts, puts_begin, puts_on, puts_end, put_one}
use Rattle.label_items.specs.Items.{label_at, label_of}
use Rattle.label_items.proofs.ItemLaws.{words_from, words_at_lem, words-done}
use Rattle.label_items.proofs.put_cached.Goals as goal
use Rattle.label_items.proofs.put_cached.Goals.{After-put_item-at}

next : (c : After-put_item-at) →
    let a = c.args in
    Puts (words_from (label_at a.t.now a.items.now) a.n (c.loop-i.i + 1))
    (words_from (label_at a.t.now a.items.now) a.n 0)
    a.out.now (put_mid c.loop-i.at (length c.loop-i.out - c.loop-i.at) c.loop-i.out c.put_item-at.new.out) (c.loop-i.at + c.put_item-at.result)
next c =
    let a = c.args in
    puts_on (record_words (label (label_of a.t.now c.item_at.result)) ∷ []) _ _ _ _ _ _ _ _ c.loop-i.invariant
    (words_at_lem a.t.now a.items.now a.n c.loop-i.i c.item_at.result c.loop-i-test.true c.item_at.ensures)
    (put_one _ _ _ _ c.put_item-at.ensures)

pub loop-i-init : goal.loop-i-init
loop-i-init c = puts_begin _ _

pub slice_bounds-put_item-count : goal.slice_bounds-put_item-count
slice_bounds-put_item-count c = c.loop-i.invariant.inside

pub slice_bounds-put_item-start : goal.slice_bounds-put_item-start
slice_bounds-put_item-start c = c.loop-i.invariant.inside

pub overflow_add-at : goal.overflow_add-at
overflow_add-at c = let q = next (goal.at.overflow_add-at c).After-put_item-at in record { fits = omega (arith, q.inside, q.long) }

pub loop-i-preserved : goal.loop-i-preserved
loop-i-preserved c = next (goal.at.loop-i-preserved c).After-put_item-at

pub shape_of-out : goal.shape_of-out
shape_of-out c = c.loop-i.invariant.long

pub returns : goal.returns
returns c =
    let a = c.args in
    puts_end _ _ _ _ _ c.loop-i.invariant (words-done a.t.now a.items.now a.n c.loop-i.i c.loop-i-test.false)
