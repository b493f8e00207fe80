-- The LF lies ahead, so that each byte before it is there. Assumes nothing.
use native.Mathlib.Omega.{arith}
use Rattle.text_lines.proofs.LineLaws.{line-here, line_on}
use Rattle.text_lines.proofs.find_lf.Goals as goal

pub loop-i-preserved : goal.loop-i-preserved
loop-i-preserved c =
    let l = c.loop-i in
    let n = line_on c.args.s.now l.i (omega (arith, l.invariant.1)) c.loop-i-test.true in
    (omega (arith, l.invariant.0, n), omega (arith, l.invariant.1, n))

pub returns : goal.returns
returns c =
    let l = c.loop-i in
    let n = line-here c.args.s.now l.i (omega (arith, l.invariant.1)) c.loop-i-test.false in
    omega (arith, l.invariant.0, n)
