use native.Mathlib.Omega.{arith}
use mathlib.Core.Path.{◌≡◌, sym, ◌∙◌}
use Prim.Native.Nat.{ℕ, ◌+◌}
use lib.ListN.{length}
use Rattle.object.specs.Bodies.{body_at}
use Rattle.binary_measure.proofs.WalkLaws.{Turn, turn, record_begins}
use Rattle.binary_measure.proofs.MeasureLaws.{Measures, begins, goes_on, too_many, is_short_lem, is_enough}
use Rattle.binary_measure.proofs.measure.Goals as goal
use Rattle.binary_measure.proofs.measure.Goals.{After-record_end-end}

abbrev at : (c : After-record_end-end) → ℕ
at c = c.loop-at.at

measures : (c : After-record_end-end) → Measures c.args.ws.now c.args.used c.args.room (at c) c.loop-at.space
measures c = c.loop-at.invariant

ends : (c : After-record_end-end) → c.record_end-end.result ≡ (at c) + 1 + length (body_at c.args.ws.now ((at c) + 1))
ends c = c.record_end-end.ensures (record_begins _ _ _ c.loop-at-test.true (measures c).from)

here : (c : After-record_end-end) → Turn c.args.ws.now (at c) c.record_end-end.result (measures c).left
here c = turn _ _ _ _ c.loop-at-test.true (ends c) (measures c).from

pub loop-at-init : goal.loop-at-init
loop-at-init c = begins _ _ _ _ c.requires c.take-space.ensures

pub count_fits-requires : goal.count_fits-requires
count_fits-requires c = (here c).stands

pub returns-then-not-count_fits : goal.returns-then-not-count_fits
returns-then-not-count_fits c =
    too_many _ _ _ _ _ (measures (goal.at.returns-then-not-count_fits c).After-record_end-end) _ (here (goal.at.returns-then-not-count_fits c).After-record_end-end) (sym c.count_fits.ensures ∙ c.if-not-count_fits.true)

pub record_len-n-requires : goal.record_len-n-requires
record_len-n-requires c = (here (goal.at.record_len-n-requires c).After-record_end-end).stands

pub loop-at-smaller : goal.loop-at-smaller
loop-at-smaller c =
    omega (arith, ends (goal.at.loop-at-smaller c).After-record_end-end, c.loop-at-test.true)

pub loop-at-preserved : goal.loop-at-preserved
loop-at-preserved c =
    goes_on _ _ _ _ _ (measures (goal.at.loop-at-preserved c).After-record_end-end) _ _ _ (here (goal.at.loop-at-preserved c).After-record_end-end) (sym c.count_fits.ensures ∙ c.if-not-count_fits.false)
    c.record_len-n.ensures c.take-space-in-loop-at.ensures

pub returns-in-None : goal.returns-in-None
returns-in-None c = is_short_lem _ _ _ _ _ c.loop-at.invariant c.loop-at-test.false c.in-None.is

pub returns-in-Some : goal.returns-in-Some
returns-in-Some c = is_enough _ _ _ _ _ c.loop-at.invariant c.loop-at-test.false c.in-Some.is
