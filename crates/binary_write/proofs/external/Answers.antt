use mathlib.Core.Path.{sym, ap}
use borrow.Author.Tests.{le-leb, lt-leb}
use Rattle.format.specs.Words.{flag_bit}
use Rattle.binary_write.proofs.external.Goals as goal

pub returns-then-w-lt65536 : goal.returns-then-w-lt65536
returns-then-w-lt65536 c = sym (ap flag_bit (lt-leb _ _ c.if-w-lt65536.true))

pub returns : goal.returns
returns c = sym (ap flag_bit (le-leb _ _ c.if-w-lt65536.false))
