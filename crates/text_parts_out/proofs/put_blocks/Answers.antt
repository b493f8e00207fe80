-- Record by record. Assumes nothing.
use native.Mathlib.Omega.{arith}
use mathlib.Core.Path.{sym, ap}
use mathlib.Core.List.{List}
use Prim.Native.Nat.{ℕ, ◌+◌, ◌-◌, ◌^◌, ◌<◌}
use lib.ListN.{length}
use Rattle.writing.proofs.Parts.{Emits, after, emitted, small}
use Rattle.measuring.specs.Fitting.{fitting}
use Rattle.measuring.proofs.FittingLaws.{fill_begin, fill_one}
use Rattle.text_parts_out.specs.Parts.{heads, leading, block_text}
use borrow.Author.Tests.{not-true, not-false}
use Rattle.object.specs.declared.Kind.TheVariants as kind
use Rattle.object.proofs.KindLaws.{number_is, number_not}
use Rattle.text_parts_out.proofs.HeadLaws.{leading_end, leading-other, leading-next}
use Rattle.text_parts_out.proofs.put_blocks.Goals as goal
use Rattle.text_parts_out.proofs.put_blocks.Goals.{After-put_block-n}

abbrev ws : (c : After-put_block-n) → List ℕ
ws c = c.args.ws.now

abbrev room : (c : After-put_block-n) → List ℕ
room c = c.args.out.now

abbrev at : (c : After-put_block-n) → ℕ
at c = c.loop-at.at

emits : (c : After-put_block-n) → Emits (fitting (block_text (ws c)) (length (room c)) (leading (ws c) (heads (ws c) 0))) (room c)
    (fitting (block_text (ws c)) (length (room c) - (c.loop-at.n + c.put_block-n.result)) (leading (ws c) (heads (ws c) c.body_end-end.result)))
    (after (record { at = c.loop-at.n; out = c.loop-at.out }) c.put_block-n.result c.put_block-n.new.out)
emits c =
    fill_one c.loop-at.invariant (block_text (ws c)) (at c) (leading (ws c) (heads (ws c) c.body_end-end.result)) c.put_block-n.new.out
    c.put_block-n.result
    (ap (fitting (block_text (ws c)) (length (room c) - c.loop-at.n))
    (leading-next (ws c) (at c) c.body_end-end.result c.loop-at-test.true c.body_end-end.ensures
    (number_is c.of.result kind.Block _ c.of.ensures (sym (not-false _ (sym c.if-ne.ensures))))))
    c.put_block-n.ensures

tight : (c : After-put_block-n) → length (room c) < 2 ^ 64
tight c = omega arith

pub loop-at-init : goal.loop-at-init
loop-at-init c =
    let a = c.args in fill_begin (block_text a.ws.now) (leading a.ws.now (heads a.ws.now 0)) a.out.now

pub returns-then-ne : goal.returns-then-ne
unfolding fitting
returns-then-ne c =
    let o = c.loop-at in
    let a = c.args in
    emitted o.invariant
    (ap (fitting (block_text a.ws.now) (length a.out.now - o.n))
    (leading-other a.ws.now o.at c.loop-at-test.true (number_not c.of.result kind.Block _ c.of.ensures (sym (not-true _ (sym c.if-ne.ensures))))))

pub returns : goal.returns
unfolding fitting
returns c =
    let o = c.loop-at in
    let a = c.args in
    emitted o.invariant
    (ap (fitting (block_text a.ws.now) (length a.out.now - o.n)) (leading_end a.ws.now o.at c.loop-at-test.false))

pub overflow_add-n : goal.overflow_add-n
overflow_add-n c = small (emits (goal.at.overflow_add-n c).After-put_block-n) (tight (goal.at.overflow_add-n c).After-put_block-n)

pub loop-at-preserved : goal.loop-at-preserved
loop-at-preserved c = emits (goal.at.loop-at-preserved c).After-put_block-n
