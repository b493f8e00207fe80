-- A row of the table for each test that held. Assumes nothing.
use borrow.Author.Tests.{lt-ltb, le-ltb}
use mathlib.Core.Path.{◌∙◌}
use Rattle.utf8.specs.Utf8.{first_byte}
use Rattle.utf8.proofs.first_byte.Goals as goal

pub returns-then-b-lt128 : goal.returns-then-b-lt128
unfolding first_byte
returns-then-b-lt128 c = c.waiting.ensures ∙ simp (lt-ltb _ _ c.if-b-lt128.true)

pub returns-then-b-lt194 : goal.returns-then-b-lt194
unfolding first_byte
returns-then-b-lt194 c = c.waiting-then-b-lt194.ensures ∙ simp (le-ltb _ _ c.if-b-lt128.false, lt-ltb _ _ c.if-b-lt194.true)

pub returns-then-b-lt224 : goal.returns-then-b-lt224
unfolding first_byte
returns-then-b-lt224 c = c.waiting-then-b-lt224.ensures ∙ simp (
  le-ltb _ _ c.if-b-lt128.false,
  le-ltb _ _ c.if-b-lt194.false,
  lt-ltb _ _ c.if-b-lt224.true,
)
