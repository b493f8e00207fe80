use mathlib.Core.Path.{sym, ◌∙◌}
use Rattle.text_lines.specs.Groups.{kind_of}
use Rattle.format.specs.Basics.{ascii}
use Rattle.text_lines.proofs.kind_of.Goals as goal

pub returns-then-equals : goal.returns-then-equals
unfolding kind_of ascii
returns-then-equals c = let a = sym c.equals.ensures ∙ c.if-equals.true in simp (a)

pub returns-then-equals-2 : goal.returns-then-equals-2
unfolding kind_of ascii
returns-then-equals-2 c = let a = sym c.equals.ensures ∙ c.if-equals.false in let b2 = sym c.equals-2.ensures ∙ c.if-equals-2.true in simp (a, b2)

pub returns-then-equals-3 : goal.returns-then-equals-3
unfolding kind_of ascii
returns-then-equals-3 c = let a = sym c.equals.ensures ∙ c.if-equals.false in let b2 = sym c.equals-2.ensures ∙ c.if-equals-2.false in let c2 = sym c.equals-3.ensures ∙ c.if-equals-3.true in simp (a, b2, c2)

pub returns-then-equals-4 : goal.returns-then-equals-4
unfolding kind_of ascii
returns-then-equals-4 c = let a = sym c.equals.ensures ∙ c.if-equals.false in let b2 = sym c.equals-2.ensures ∙ c.if-equals-2.false in let c2 = sym c.equals-3.ensures ∙ c.if-equals-3.false in let d2 = sym c.equals-4.ensures ∙ c.if-equals-4.true in simp (a, b2, c2, d2)

pub returns : goal.returns
unfolding kind_of ascii
returns c = let a = sym c.equals.ensures ∙ c.if-equals.false in let b2 = sym c.equals-2.ensures ∙ c.if-equals-2.false in let c2 = sym c.equals-3.ensures ∙ c.if-equals-3.false in let d2 = sym c.equals-4.ensures ∙ c.if-equals-4.false in simp (a, b2, c2, d2)
