use native.Mathlib.Omega.{arith}
use Rattle.gather.specs.Kinds.{byte_of}
use Rattle.binary_words.proofs.LengthLaws.{place-step, place-end}
use Rattle.binary_words.proofs.places_length.Goals as goal

pub overflow_add-sum : goal.overflow_add-sum
overflow_add-sum c =
    let l = c.loop-p in
    let e = place-step (byte_of c.args.kind) c.args.s.now c.args.places.now l.p-index c.loop-p-test.true in
    omega (arith, e, c.words_at-sum.ensures, l.invariant, c.requires)

pub loop-p-preserved : goal.loop-p-preserved
loop-p-preserved c =
    let l = c.loop-p in
    let e = place-step (byte_of c.args.kind) c.args.s.now c.args.places.now l.p-index c.loop-p-test.true in
    omega (arith, e, c.words_at-sum.ensures, l.invariant)

pub returns : goal.returns
returns c =
    let l = c.loop-p in
    omega (arith, l.invariant, place-end (byte_of c.args.kind) c.args.s.now c.args.places.now l.p-index c.loop-p-test.false)
