-- As near_end's, and past high words and past blocks the same end. Assumes nothing.
use native.Mathlib.Omega.{arith}
use mathlib.Core.Path.{sym, ap, ◌∙◌}
use lib.ListN.{length}
use Rattle.object.proofs.BodyLaws.{goes, stops, ends_within}
use Rattle.object.proofs.body_end.Goals as goal

pub returns-then-not-goes_on : goal.returns-then-not-goes_on
returns-then-not-goes_on c =
    let g = stops _ _ (sym c.goes_on.ensures ∙ c.if-not-goes_on.true) in omega (arith, ap length g, c.loop-i.invariant.1)

pub loop-i-preserved : goal.loop-i-preserved
loop-i-preserved c =
    let g = goes _ _ (sym c.goes_on.ensures ∙ c.if-not-goes_on.false) in
    (omega (arith, c.loop-i.invariant.0), omega (arith, ap length g.1, c.loop-i.invariant.1))

pub returns : goal.returns
returns c =
    let ws = c.args.ws.now in
    let s = c.past_high-start in
    let e = ends_within ws s.result c.loop-i.i c.loop-i-test.false c.loop-i.auto.i-end (omega (arith, s.ensures.1, c.loop-i.invariant.1)) in
    omega (arith, e, s.ensures.1, c.max.ensures)
