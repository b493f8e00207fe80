use borrow.Author.Tests.{leb-true, leb-false}
use lib.Dec.{leb}
use Rattle.format.proofs.ListLaws.{by_test}
use native.Mathlib.Omega.{arith}
use mathlib.Core.Path.{◌≡◌, ap}
use Prim.Native.Nat.{◌≤◌}
use lib.ListN.{length}
use Rattle.object.specs.Bodies.{body_at}
use Rattle.object.proofs.BodyLaws.{body_out}
use Rattle.binary_measure.proofs.TextLaws.{text_goes, text_stops}
use Rattle.binary_measure.proofs.text_end.Goals as goal

pub returns-then-ws-i-lt3758096384 : goal.returns-then-ws-i-lt3758096384
returns-then-ws-i-lt3758096384 c = λ t.
    let i = c.loop-i.invariant t in
    let e = ap length (text_stops _ _ i.0 c.loop-i-test.true c.if-ws-i-lt3758096384.true) in omega (arith, i.1, e)

pub loop-i-preserved : goal.loop-i-preserved
loop-i-preserved c = λ t.
    let i = c.loop-i.invariant t in
    let g = text_goes _ _ i.0 c.loop-i-test.true c.if-ws-i-lt3758096384.false (c.shared_slice_known-1.given _).fits in
    (g.1, omega (arith, i.1, ap length g.0))

pub returns : goal.returns
returns c = λ t.
    let ws = c.args.ws.now in
    let e = ap length (body_out ws c.loop-i.i c.loop-i-test.false) in
    let past : length ws ≤ c.args.at → length (body_at ws c.args.at) ≡ 0 = λ h. ap length (body_out ws c.args.at h) in
    let inv = (c.loop-i.invariant t).1 in
    by_test (leb c.args.at (length ws)) (λ h. omega (arith, inv, e, c.loop-i.auto.i-end (leb-true _ _ h)))
    (λ h. let l = leb-false _ _ h in omega (arith, past (omega (arith, l))))
