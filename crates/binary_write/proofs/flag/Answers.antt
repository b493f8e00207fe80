use mathlib.Core.Path.{sym}
use borrow.Author.Tests.{eq-eqb, ne_eqb}
use Rattle.binary_write.proofs.flag.Goals as goal

pub returns-then-w-eq0 : goal.returns-then-w-eq0
returns-then-w-eq0 c = sym (rw (eq-eqb _ _ c.if-w-eq0.true))

pub returns : goal.returns
returns c = sym (rw (ne_eqb _ _ c.if-w-eq0.false))
