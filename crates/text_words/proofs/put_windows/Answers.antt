use borrow.Author.Rules.{rules}
use mathlib.Core.Path.{refl, ap, ◌∙◌}
use mathlib.Core.List.{map}
use Prim.Native.Nat.{◌+◌, ◌-◌}
use native.Mathlib.Omega.{arith}
use lib.ListN.{length}
use borrow.Rule.Slice.PartMut.{put_mid}
use Rattle.format.specs.Words.{record_words}
use Rattle.text_rows.specs.Rows.{number_of}
use Rattle.text_gather.specs.Order.{left}
use Rattle.text_words.proofs.PutLaws.{Puts, puts_begin, walk_puts, walk-on, walk_end, walk-less}
use Rattle.text_words.proofs.put_windows.Goals as goal
use Rattle.text_words.proofs.put_windows.Goals.{After-put_window-at}

puts : (c : After-put_window-at) →
    let l = c.loop-sorting in
    let a = c.args in
    Puts (map record_words (left a.t.now c.next_window-sorting.result)) (map record_words (left a.t.now a.first)) a.out.now
    (put_mid l.at (length l.out - l.at) l.out c.put_window-at.new.out) (l.at + c.put_window-at.result)
puts c =
    let l = c.loop-sorting in
    walk_puts _ _ _ _ _ _ _ _ _ _ _ _ _ _ _ l.invariant c.next_window-sorting.ensures.0 c.next_window-sorting.auto.win c.put_window-at.ensures

pub loop-sorting-init : goal.loop-sorting-init
loop-sorting-init c = record { same_kind = refl; window = refl; puts = puts_begin _ _ }

pub offset_bounds-out-at : goal.offset_bounds-out-at
offset_bounds-out-at c = let p = c.loop-sorting.invariant.puts in let h = p.inside in let k = p.long in search rules

pub slice_bounds-put_window-count : goal.slice_bounds-put_window-count
slice_bounds-put_window-count c = c.loop-sorting.invariant.puts.inside

pub slice_bounds-put_window-start : goal.slice_bounds-put_window-start
slice_bounds-put_window-start c = c.loop-sorting.invariant.puts.inside

pub overflow_add-at : goal.overflow_add-at
overflow_add-at c = let q = puts (goal.at.overflow_add-at c).After-put_window-at in record { fits = omega (arith, q.inside, q.long) }

pub shape_of-out-then-sorting-win : goal.shape_of-out-then-sorting-win
shape_of-out-then-sorting-win c = (puts (goal.at.shape_of-out-then-sorting-win c).After-put_window-at).long

pub shape_of-win-then-sorting-win : goal.shape_of-win-then-sorting-win
shape_of-win-then-sorting-win c =
    c.next_window-sorting.auto.win ∙ c.loop-sorting.invariant.window

pub returns-then-sorting-win : goal.returns-then-sorting-win
returns-then-sorting-win c =
    let l = c.loop-sorting in
    walk_end _ _ _ _ _ _ _ _ _ _ _ _ _ _ _ l.invariant c.next_window-sorting.ensures.0 c.next_window-sorting.auto.win c.put_window-at.ensures c.if-sorting-win.true

pub loop-sorting-smaller : goal.loop-sorting-smaller
loop-sorting-smaller c =
    let l = c.loop-sorting in
    walk-less _ _ _ _ _ _ l.out _ _ _ l.out l.at _ _ 0 l.invariant c.next_window-sorting.ensures.0 c.next_window-sorting.auto.win c.if-sorting-win.false c.requires

pub loop-sorting-preserved : goal.loop-sorting-preserved
loop-sorting-preserved c =
    let l = c.loop-sorting in
    walk-on _ _ _ _ _ _ _ _ _ _ _ _ _ _ _ l.invariant c.next_window-sorting.ensures.0 c.next_window-sorting.auto.win c.put_window-at.ensures _ (ap number_of c.next_window-sorting.ensures.1)
