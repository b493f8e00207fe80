-- Record by record. Assumes nothing.
use native.Mathlib.Omega.{arith}
use mathlib.Core.Path.{◌≡◌, refl, sym, ap, ◌∙◌}
use mathlib.Core.List.{List, ◌++◌, flat_map}
use Prim.Native.Nat.{ℕ, ◌≤◌, ◌<◌}
use lib.ListN.{length}
use Rattle.measuring.specs.Room.{less_part}
use Rattle.measuring.proofs.RoomLaws.{less-nothing, part-fits, part-short}
use Rattle.text_parts_out.specs.Parts.{heads, link_text}
use Rattle.text_parts_out.proofs.HeadLaws.{next-less, heads-end, heads-next}
use Rattle.text_parts_out.proofs.measure_relocations.Goals as goal
use Rattle.text_parts_out.proofs.measure_relocations.Goals.{After-body_end-end}

abbrev rows_from : List ℕ → ℕ → List ℕ
rows_from ws at = flat_map (link_text ws) (heads ws at)

abbrev ws : (c : After-body_end-end) → List ℕ
ws c = c.args.ws.now

abbrev at : (c : After-body_end-end) → ℕ
at c = c.loop-at.at

here : (c : After-body_end-end) → rows_from (ws c) (at c) ≡ link_text (ws c) (at c) ++ rows_from (ws c) c.body_end-end.result
unfolding flat_map
here c = ap (flat_map (link_text (ws c))) (heads-next (ws c) (at c) c.body_end-end.result c.loop-at-test.true c.body_end-end.ensures)

less-on : (c : After-body_end-end) → ((at c) < c.body_end-end.result) × (c.body_end-end.result ≤ length (ws c))
less-on c = next-less (ws c) (at c) c.body_end-end.result c.loop-at-test.true c.body_end-end.ensures

pub returns-in_err-left : goal.returns-in_err-left
returns-in_err-left c =
    let o = c.loop-at in
    rw c.from_residual.ensures (part-short o.left (link_text (ws (goal.at.returns-in_err-left c).After-body_end-end) (at (goal.at.returns-in_err-left c).After-body_end-end)) (rows_from (ws (goal.at.returns-in_err-left c).After-body_end-end) c.body_end-end.result) (here (goal.at.returns-in_err-left c).After-body_end-end)
    c.in_err-left.ensures
    ∙ o.invariant)

pub loop-at-smaller : goal.loop-at-smaller
loop-at-smaller c = let w = less-on (goal.at.loop-at-smaller c).After-body_end-end in omega (arith, w.0, w.1)

pub loop-at-preserved : goal.loop-at-preserved
loop-at-preserved c =
    let o = c.loop-at in
    part-fits o.left (link_text (ws (goal.at.loop-at-preserved c).After-body_end-end) (at (goal.at.loop-at-preserved c).After-body_end-end)) (rows_from (ws (goal.at.loop-at-preserved c).After-body_end-end) c.body_end-end.result) (here (goal.at.loop-at-preserved c).After-body_end-end)
    c.in_ok-left.ensures
    ∙ o.invariant

pub returns : goal.returns
unfolding flat_map
returns c =
    let o = c.loop-at in
    let ws = c.args.ws.now in
    less-nothing o.left
    ∙ ap (λ (ps : List ℕ). less_part o.left (flat_map (link_text ws) ps)) (sym (heads-end ws o.at c.loop-at-test.false))
    ∙ o.invariant

pub loop-at-init : goal.loop-at-init
loop-at-init c = refl

pub overflow_add-at : goal.overflow_add-at
overflow_add-at c = omega (arith, c.loop-at-test.true)

pub measure_relocation-requires : goal.measure_relocation-requires
measure_relocation-requires c = (c.loop-at-test.true, c.body_end-end.ensures)
