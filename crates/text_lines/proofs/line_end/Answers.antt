-- The place of the LF that the blocks show, or byte by byte. Assumes nothing.
use native.Mathlib.Omega.{arith}
use Rattle.text_lines.proofs.LineLaws.{line-here, line_on, line_stop}
use Rattle.text_lines.proofs.line_end.Goals as goal

pub returns-then-s-i-eq10 : goal.returns-then-s-i-eq10
returns-then-s-i-eq10 c =
    (omega arith, omega arith, omega (arith, line-here c.args.s.now c.loop-i.i c.loop-i-test.true c.if-s-i-eq10.true))

pub loop-i-preserved : goal.loop-i-preserved
loop-i-preserved c =
    (omega arith, omega (arith, line_on c.args.s.now c.loop-i.i c.loop-i-test.true c.if-s-i-eq10.false))

pub returns : goal.returns
returns c =
    (omega arith, omega arith, omega (arith, line_stop c.args.s.now c.loop-i.i c.loop-i-test.false))
