use native.Mathlib.Omega.{arith}
use mathlib.Core.Path.{◌≡◌}
use mathlib.Core.List.{List}
use Prim.Native.Nat.{ℕ, ◌+◌, ◌≤◌, ◌<◌}
use lib.ListN.{length, get_or}
use Rattle.part_counts.specs.Parts.{indicator, of_kind, part_counts}
use Rattle.part_counts.proofs.PartLaws.{Counted, counted-few, counted_next, counted-end, same-counts}
use Rattle.part_counts.proofs.count_parts.Goals as goal

-- one word on
fits : (ws : List ℕ) (i k n x : ℕ) → Counted ws i k n → i < length ws → x ≡ indicator k (get_or ws i 0) → n + x ≤ length ws
fits ws i k n x before h e = counted-few ws (i + 1) k (n + x) (counted_next ws i k n before h x e)

pub loop-w-preserved : goal.loop-w-preserved
loop-w-preserved c =
    let ws = c.args.object.now in
    let l = c.loop-w in
    let v = l.invariant in
    let t = c.loop-w-test.true in (
      counted_next ws l.w-index 0 l.blocks v.0 t c.indicator-blocks.result c.indicator-blocks.ensures,
      counted_next ws l.w-index 2 l.labels v.1 t c.indicator-labels.result c.indicator-labels.ensures,
      counted_next ws l.w-index 3 l.line_blocks v.2 t c.indicator-line_blocks.result c.indicator-line_blocks.ensures,
      counted_next ws l.w-index 4 l.sources v.3 t c.indicator-sources.result c.indicator-sources.ensures,
      counted_next ws l.w-index 5 l.relocations v.4 t c.indicator-relocations.result c.indicator-relocations.ensures,
    )

pub returns : goal.returns
unfolding part_counts
returns c =
    let ws = c.args.object.now in
    let l = c.loop-w in
    let v = l.invariant in
    let end : (k n : ℕ) → Counted ws l.w-index k n → n ≡ of_kind k ws = λ k n m. counted-end ws l.w-index k n m c.loop-w-test.false in
    same-counts (end 0 _ v.0) (end 2 _ v.1) (end 3 _ v.2) (end 4 _ v.3) (end 5 _ v.4)

pub overflow_add-blocks : goal.overflow_add-blocks
overflow_add-blocks c = let l = c.loop-w in
    omega (arith, fits c.args.object.now l.w-index 0 l.blocks c.indicator-blocks.result l.invariant.0 c.loop-w-test.true c.indicator-blocks.ensures)

pub overflow_add-labels : goal.overflow_add-labels
overflow_add-labels c = let l = c.loop-w in
    omega (arith, fits c.args.object.now l.w-index 2 l.labels c.indicator-labels.result l.invariant.1 c.loop-w-test.true c.indicator-labels.ensures)

pub overflow_add-line_blocks : goal.overflow_add-line_blocks
overflow_add-line_blocks c = let l = c.loop-w in
    omega (arith, fits c.args.object.now l.w-index 3 l.line_blocks c.indicator-line_blocks.result l.invariant.2 c.loop-w-test.true c.indicator-line_blocks.ensures)

pub overflow_add-sources : goal.overflow_add-sources
overflow_add-sources c = let l = c.loop-w in
    omega (arith, fits c.args.object.now l.w-index 4 l.sources c.indicator-sources.result l.invariant.3 c.loop-w-test.true c.indicator-sources.ensures)

pub overflow_add-relocations : goal.overflow_add-relocations
overflow_add-relocations c = let l = c.loop-w in
    omega (arith, fits c.args.object.now l.w-index 5 l.relocations c.indicator-relocations.result l.invariant.4 c.loop-w-test.true c.indicator-relocations.ensures)
