-- Record by record. Assumes nothing.
use native.Mathlib.Omega.{arith}
use mathlib.Core.List.{List}
use Prim.Native.Nat.{ℕ}
use mathlib.Core.Path.{sym, ◌∙◌}
use borrow.Author.Tests.{ltb-false}
use Rattle.text_lines_out.proofs.TableLaws.{blocks-less}
use Rattle.text_write.proofs.PastLaws.{past-start, past-on}
use Rattle.text_write.proofs.lines.past_labels.Goals as goal
use Rattle.text_write.proofs.lines.past_labels.Goals.{In-loop-at}

abbrev ws : (c : In-loop-at) → List ℕ
ws c = c.args.ws.now

abbrev at : (c : In-loop-at) → ℕ
at c = c.loop-at.at

pub loop-at-smaller : goal.loop-at-smaller
loop-at-smaller c =
    let w = blocks-less (ws (goal.at.loop-at-smaller c).In-loop-at) (at (goal.at.loop-at-smaller c).In-loop-at) c.body_end-at.result c.loop-at-test.true c.body_end-at.ensures in omega (arith, w.0, w.1)

pub loop-at-preserved : goal.loop-at-preserved
loop-at-preserved c =
    past-on (ws (goal.at.loop-at-preserved c).In-loop-at) (at (goal.at.loop-at-preserved c).In-loop-at) c.body_end-at.result c.loop-at-test.true c.body_end-at.ensures
    (omega (arith, c.of.ensures, ltb-false 2 _ (sym c.is_past_labels.ensures ∙ c.if-is_past_labels.false))) c.loop-at.invariant

pub loop-at-init : goal.loop-at-init
loop-at-init c = past-start c.args.ws.now c.requires

pub returns-then-is_past_labels : goal.returns-then-is_past_labels
returns-then-is_past_labels c = c.loop-at.invariant

pub overflow_add-at : goal.overflow_add-at
overflow_add-at c = omega (arith, c.loop-at-test.true)

pub returns : goal.returns
returns c = c.loop-at.invariant
