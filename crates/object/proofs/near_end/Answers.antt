use native.Mathlib.Omega.{arith}
use mathlib.Core.Path.{sym, ap, ◌∙◌}
use lib.ListN.{length}
use Rattle.object.proofs.BodyLaws.{goes, stops, ends_within}
use Rattle.object.proofs.near_end.Goals as goal

pub returns-then-not-goes_on : goal.returns-then-not-goes_on
returns-then-not-goes_on c =
    let g = stops _ _ (sym c.goes_on.ensures ∙ c.if-not-goes_on.true) in omega (arith, ap length g, c.loop-i.invariant)

pub loop-i-preserved : goal.loop-i-preserved
loop-i-preserved c = let g = goes _ _ (sym c.goes_on.ensures ∙ c.if-not-goes_on.false) in omega (arith, ap length g.1)

pub returns : goal.returns
returns c = c.max.ensures ∙ ends_within _ _ _ c.loop-i-test.false c.loop-i.auto.i-end c.loop-i.invariant
