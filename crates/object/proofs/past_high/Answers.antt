-- A word more each turn. Assumes nothing.
use native.Mathlib.Omega.{arith}
use mathlib.Core.Path.{sym, ap}
use lib.ListN.{length, get_or}
use Rattle.object.specs.Bodies.{SameEnd}
use Rattle.object.proofs.BodyLaws.{body_goes, body_out, ends_within}
use Rattle.object.proofs.WordLaws.{head-high}
use Rattle.object.proofs.past_high.Goals as goal

pub loop-i-preserved : goal.loop-i-preserved
loop-i-preserved c =
    let ws = c.args.ws.now in
    let i = c.loop-i.i in
    let v : SameEnd ws c.args.at i = c.loop-i.invariant in
    let g = body_goes ws i c.loop-i-test.true (head-high (get_or ws i 0) c.if-ws-i-lt3221225472.false) in omega (arith, v, ap length g)

pub returns : goal.returns
returns c =
    let ws = c.args.ws.now in
    let m = c.max.result in
    let v : SameEnd ws c.args.at c.loop-i.i = c.loop-i.invariant in
    let e = ends_within ws c.args.at c.loop-i.i c.loop-i-test.false c.loop-i.auto.i-end (sym v) in
    let o = ap length (body_out ws m (omega arith)) in
    (omega arith, omega (arith, e, o, c.max.ensures))
