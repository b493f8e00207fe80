-- Each way out as the definition has it, by the tests that led there. Assumes nothing.
use borrow.Author.Tests.{lt-ltb, le-ltb, eq-eqb, ne_eqb}
use mathlib.Core.Path.{◌∙◌}
use Rattle.utf8.specs.Utf8.{step}
use Rattle.utf8.proofs.Utf8.step.Goals as goal

pub returns-then-need-eq0 : goal.returns-then-need-eq0
unfolding step
returns-then-need-eq0 c = c.first_byte.ensures ∙ simp (eq-eqb _ _ c.if-need-eq0.true)

pub returns-then-b-low : goal.returns-then-b-low
unfolding step
returns-then-b-low c = c.waiting.ensures ∙ simp (ne_eqb _ _ c.if-need-eq0.false, lt-ltb _ _ c.if-b-low.true)

pub returns-then-high-b : goal.returns-then-high-b
unfolding step
returns-then-high-b c = c.waiting-then-high-b.ensures ∙ simp (
  ne_eqb _ _ c.if-need-eq0.false,
  le-ltb _ _ c.if-b-low.false,
  lt-ltb _ _ c.if-high-b.true,
)

pub returns : goal.returns
unfolding step
returns c = c.waiting-2.ensures ∙ simp (
  ne_eqb _ _ c.if-need-eq0.false,
  le-ltb _ _ c.if-b-low.false,
  le-ltb _ _ c.if-high-b.false,
)
