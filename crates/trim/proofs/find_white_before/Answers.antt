-- By the tests that led there. Assumes nothing.
use mathlib.Core.Path.{sym, ◌∙◌}
use Rattle.trim.specs.WhiteSpace.{white_before}
use Rattle.trim.proofs.find_white_before.Goals as goal

pub returns-then-ends_white : goal.returns-then-ends_white
unfolding white_before
returns-then-ends_white c = simp (sym c.ends_white.ensures ∙ c.if-ends_white.true)

pub returns-then-ends_white-2 : goal.returns-then-ends_white-2
unfolding white_before
returns-then-ends_white-2 c = simp (
  sym c.ends_white.ensures ∙ c.if-ends_white.false,
  sym
      c.ends_white-2.ensures ∙ c.if-ends_white-2.true,
)

pub returns-then-ends_white-3 : goal.returns-then-ends_white-3
unfolding white_before
returns-then-ends_white-3 c = simp (
  sym c.ends_white.ensures ∙ c.if-ends_white.false,
  sym c.ends_white-2.ensures ∙ c.if-ends_white-2.false,
  sym c.ends_white-3.ensures ∙
      c.if-ends_white-3.true,
)

pub returns : goal.returns
unfolding white_before
returns c = simp (
  sym c.ends_white.ensures ∙ c.if-ends_white.false,
  sym c.ends_white-2.ensures ∙ c.if-ends_white-2.false,
  sym c.ends_white-3.ensures ∙
      c.if-ends_white-3.false,
)
