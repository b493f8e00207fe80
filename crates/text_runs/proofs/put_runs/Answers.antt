-- Run by run. Assumes nothing.
use native.Mathlib.Omega.{arith}
use mathlib.Core.Path.{refl, ◌∙◌}
use Rattle.text_runs.proofs.RunLaws.{lining_begin, lining_end, lining_on}
use Rattle.text_runs.proofs.put_runs.Goals as goal

pub loop-run-init : goal.loop-run-init
loop-run-init c = (lining_begin _ _ _, refl)

pub returns : goal.returns
returns c = let e = c.in_default.ensures in lining_end _ _ _ _ _ _ _ c.loop-run.invariant.0 e.0 e.1

pub overflow_add-at : goal.overflow_add-at
overflow_add-at c =
    let q = (lining_on _ _ _ _ _ _ _ c.loop-run.invariant.0 _ _ c.in-Some.ensures.0 _ _ c.put_run-at.ensures).puts in
    record { fits = omega (arith, q.inside, q.long) }

pub loop-run-preserved : goal.loop-run-preserved
loop-run-preserved c =
    (lining_on _ _ _ _ _ _ _ c.loop-run.invariant.0 _ _ c.in-Some.ensures.0 _ _ c.put_run-at.ensures, c.next_run.auto.kept ∙ c.loop-run.invariant.1)
