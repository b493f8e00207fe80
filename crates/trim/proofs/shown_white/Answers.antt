-- By the tests that led there. Assumes nothing.
use borrow.Author.Tests.{eq-eqb, ne_eqb, lt-ltb, le-ltb}
use native.Mathlib.Omega.{arith}
use Rattle.trim.specs.WhiteSpace.{shown_white}
use Rattle.trim.proofs.shown_white.Goals as goal

pub returns-then-b-eq32 : goal.returns-then-b-eq32
unfolding shown_white
returns-then-b-eq32 c = (simp (eq-eqb _ _ c.if-b-eq32.true), omega arith)

pub returns-then-b-lt32 : goal.returns-then-b-lt32
unfolding shown_white
returns-then-b-lt32 c = simp (ne_eqb _ _ c.if-b-eq32.false, lt-ltb _ _ c.if-b-lt32.true)

pub returns-then-b-gt126 : goal.returns-then-b-gt126
unfolding shown_white
returns-then-b-gt126 c = simp (ne_eqb _ _ c.if-b-eq32.false, le-ltb _ _ c.if-b-lt32.false, lt-ltb _ _ c.if-b-gt126.true)

pub returns : goal.returns
unfolding shown_white
returns c = (simp (ne_eqb _ _ c.if-b-eq32.false, le-ltb _ _ c.if-b-lt32.false, le-ltb _ _ c.if-b-gt126.false), omega arith)
