use native.Mathlib.Omega.{arith}
use borrow.Author.Tests.{le-leb, lt-leb}
use Rattle.utf8.specs.Chars.{begins}
use Rattle.label_tables.proofs.begins.Goals as goal

pub returns-then-b-lt128 : goal.returns-then-b-lt128
unfolding begins
returns-then-b-lt128 c = (simp (lt-leb _ _ c.if-b-lt128.true), omega arith)

pub returns-then-b-gt-LAST_CONTINUATION : goal.returns-then-b-gt-LAST_CONTINUATION
unfolding begins
returns-then-b-gt-LAST_CONTINUATION c = (simp (le-leb _ _ c.if-b-lt128.false, lt-leb _ _ c.if-b-gt-LAST_CONTINUATION.true), omega arith)

pub returns : goal.returns
unfolding begins
returns c = (simp (le-leb _ _ c.if-b-lt128.false, le-leb _ _ c.if-b-gt-LAST_CONTINUATION.false), omega arith)
