-- Record by record. Assumes nothing.
use native.Mathlib.Omega.{arith}
use mathlib.Core.Path.{◌≡◌, refl, sym, ap, ◌∙◌}
use mathlib.Core.List.{List, ◌++◌, flat_map}
use Prim.Native.Nat.{ℕ, ◌+◌, ◌-◌, ◌*◌, ◌≤◌, ◌<◌}
use lib.ListN.{length}
use Rattle.format.specs.TextWriter.{decimal}
use Rattle.object.specs.Bodies.{body_at}
use Rattle.measuring.specs.Room.{less, less_part}
use Rattle.measuring.proofs.RoomLaws.{less-nothing, part-fits, part-short}
use Rattle.text_parts_out.specs.Parts.{heads, leading, block_text}
use borrow.Author.Tests.{not-true, not-false}
use Rattle.object.specs.declared.Kind.TheVariants as kind
use Rattle.object.proofs.KindLaws.{number_is, number_not}
use Rattle.text_parts_out.proofs.HeadLaws.{next-less, leading_end, leading-other, leading-next}
use Rattle.text_parts_out.proofs.PartLaws.{block_size}
use Rattle.text_parts_out.proofs.measure_blocks.Goals as goal
use Rattle.text_parts_out.proofs.measure_blocks.Goals.{After-block_room}

abbrev text_from : List ℕ → ℕ → List ℕ
text_from ws at = flat_map (block_text ws) (leading ws (heads ws at))

abbrev ws : (c : After-block_room) → List ℕ
ws c = c.args.ws.now

abbrev at : (c : After-block_room) → ℕ
at c = c.loop-at.at

here : (c : After-block_room) → text_from (ws c) (at c) ≡ block_text (ws c) (at c) ++ text_from (ws c) c.body_end-end.result
unfolding flat_map
here c =
    ap (flat_map (block_text (ws c)))
    (leading-next (ws c) (at c) c.body_end-end.result c.loop-at-test.true c.body_end-end.ensures
    (number_is c.of.result kind.Block _ c.of.ensures (sym (not-false _ (sym c.if-ne.ensures)))))

sized : (c : After-block_room) →
    less c.loop-at.left (length (decimal (c.body_end-end.result - (at c + 1))) + 6 + 5 * (c.body_end-end.result - (at c + 1)))
    ≡ less_part c.loop-at.left (block_text (ws c) (at c))
sized c =
    let n : c.body_end-end.result - (at c + 1) ≡ length (body_at (ws c) (at c + 1)) = omega (arith, c.body_end-end.ensures) in
    ap (λ (k : ℕ). less c.loop-at.left (length (decimal k) + 6 + 5 * k)) n ∙ ap (less c.loop-at.left) (sym (block_size (ws c) (at c)))

less-on : (c : After-block_room) → (at c < c.body_end-end.result) × (c.body_end-end.result ≤ length (ws c))
less-on c = next-less (ws c) (at c) c.body_end-end.result c.loop-at-test.true c.body_end-end.ensures

pub returns-then-ne : goal.returns-then-ne
unfolding flat_map
returns-then-ne c =
    let ws = c.args.ws.now in
    let o = c.loop-at in
    less-nothing o.left
    ∙ ap (λ (ps : List ℕ). less_part o.left (flat_map (block_text ws) ps))
    (sym (leading-other ws o.at c.loop-at-test.true (number_not c.of.result kind.Block _ c.of.ensures (sym (not-true _ (sym c.if-ne.ensures))))))
    ∙ o.invariant

pub returns-in_err-left : goal.returns-in_err-left
returns-in_err-left c =
    let o = c.loop-at in
    rw c.from_residual.ensures (part-short o.left (block_text (ws (goal.at.returns-in_err-left c).After-block_room) (at (goal.at.returns-in_err-left c).After-block_room)) (text_from (ws (goal.at.returns-in_err-left c).After-block_room) c.body_end-end.result) (here (goal.at.returns-in_err-left c).After-block_room)
    (c.in_err-left.ensures ∙ sized (goal.at.returns-in_err-left c).After-block_room)
    ∙ o.invariant)

pub loop-at-smaller : goal.loop-at-smaller
loop-at-smaller c = let w = less-on (goal.at.loop-at-smaller c).After-block_room in omega (arith, w.0, w.1)

pub loop-at-preserved : goal.loop-at-preserved
loop-at-preserved c =
    let o = c.loop-at in
    part-fits o.left (block_text (ws (goal.at.loop-at-preserved c).After-block_room) (at (goal.at.loop-at-preserved c).After-block_room)) (text_from (ws (goal.at.loop-at-preserved c).After-block_room) c.body_end-end.result) (here (goal.at.loop-at-preserved c).After-block_room)
    (c.in_ok-left.ensures ∙ sized (goal.at.loop-at-preserved c).After-block_room)
    ∙ o.invariant

pub returns : goal.returns
unfolding flat_map
returns c =
    let o = c.loop-at in
    let ws = c.args.ws.now in
    less-nothing o.left
    ∙ ap (λ (ps : List ℕ). less_part o.left (flat_map (block_text ws) ps)) (sym (leading_end ws o.at c.loop-at-test.false))
    ∙ o.invariant

pub loop-at-init : goal.loop-at-init
loop-at-init c = refl

pub overflow_sub-end : goal.overflow_sub-end
overflow_sub-end c = omega (arith, c.body_end-end.ensures)
