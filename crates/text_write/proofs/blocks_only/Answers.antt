-- Record by record. Assumes nothing.
use native.Mathlib.Omega.{arith}
use mathlib.Core.Path.{◌≡◌, sym, ap, ◌∙◌}
use mathlib.Core.Bool.{not, ◌||◌}
use mathlib.Core.List.{List}
use Prim.Native.Nat.{ℕ}
use lib.Dec.{eqb}
use Rattle.format.specs.TextWriter.{blocks_only}
use Rattle.object.specs.Access.{kind_at}
use Rattle.text_write.specs.Tables.{object_in}
use Rattle.text_write.proofs.OnlyLaws.{only-start, only_end, only-not, only-on, only-less}
use Rattle.text_write.proofs.blocks_only.Goals as goal
use Rattle.text_write.proofs.blocks_only.Goals.{After-is_symbolic}

abbrev ws : (c : After-is_symbolic) → List ℕ
ws c = c.args.ws.now

abbrev at : (c : After-is_symbolic) → ℕ
at c = c.loop-at.at

is : (c : After-is_symbolic) → c.is_symbolic.result ≡ not (eqb (kind_at (ws c) (at c)) 0 || eqb (kind_at (ws c) (at c)) 3)
is c = c.is_symbolic.ensures ∙ ap (λ (k : ℕ). not (eqb k 0 || eqb k 3)) c.of.ensures

pub loop-at-init : goal.loop-at-init
loop-at-init c = only-start c.args.ws.now c.requires

pub returns-then-is_symbolic : goal.returns-then-is_symbolic
returns-then-is_symbolic c =
    only-not (ws (goal.at.returns-then-is_symbolic c).After-is_symbolic) (at (goal.at.returns-then-is_symbolic c).After-is_symbolic) (blocks_only (object_in (ws (goal.at.returns-then-is_symbolic c).After-is_symbolic))) c.loop-at-test.true c.loop-at.invariant (sym (is (goal.at.returns-then-is_symbolic c).After-is_symbolic) ∙ c.if-is_symbolic.true)

pub loop-at-smaller : goal.loop-at-smaller
loop-at-smaller c =
    let w = only-less (ws (goal.at.loop-at-smaller c).After-is_symbolic) (at (goal.at.loop-at-smaller c).After-is_symbolic) (blocks_only (object_in (ws (goal.at.loop-at-smaller c).After-is_symbolic))) c.loop-at-test.true c.loop-at.invariant c.body_end-at.result
    c.body_end-at.ensures in
    omega (arith, w.0, w.1)

pub loop-at-preserved : goal.loop-at-preserved
loop-at-preserved c =
    only-on (ws (goal.at.loop-at-preserved c).After-is_symbolic) (at (goal.at.loop-at-preserved c).After-is_symbolic) (blocks_only (object_in (ws (goal.at.loop-at-preserved c).After-is_symbolic))) c.loop-at-test.true c.loop-at.invariant c.body_end-at.result
    c.body_end-at.ensures (sym (is (goal.at.loop-at-preserved c).After-is_symbolic) ∙ c.if-is_symbolic.false)

pub returns : goal.returns
returns c =
    let w = c.args.ws.now in
    only_end w c.loop-at.at (blocks_only (object_in w)) c.loop-at-test.false c.loop-at.invariant

pub overflow_add-at : goal.overflow_add-at
overflow_add-at c = omega (arith, c.loop-at-test.true)
