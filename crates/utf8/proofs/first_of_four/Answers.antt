-- A row of the table for each test that held. Assumes nothing.
use borrow.Author.Tests.{lt-ltb, le-ltb, eq-eqb, ne_eqb}
use mathlib.Core.Path.{◌∙◌, sym}
use Rattle.utf8.proofs.TableLaws.{row-four}
use Rattle.utf8.proofs.first_of_four.Goals as goal

pub returns-then-b-eq240 : goal.returns-then-b-eq240
returns-then-b-eq240 c = c.waiting.ensures ∙ sym (row-four _ c.requires ∙ simp (eq-eqb _ _ c.if-b-eq240.true))

pub returns-then-b-lt244 : goal.returns-then-b-lt244
returns-then-b-lt244 c = c.waiting-then-b-lt244.ensures ∙ sym (row-four _ c.requires ∙ simp (ne_eqb _ _ c.if-b-eq240.false, lt-ltb _ _ c.if-b-lt244.true))

pub returns-then-b-eq244 : goal.returns-then-b-eq244
returns-then-b-eq244 c = c.waiting-then-b-eq244.ensures ∙ sym (row-four _ c.requires
    ∙ simp (ne_eqb _ _ c.if-b-eq240.false, le-ltb _ _ c.if-b-lt244.false, eq-eqb _ _ c.if-b-eq244.true))

pub returns : goal.returns
returns c = c.waiting-2.ensures ∙ sym (row-four _ c.requires
    ∙ simp (ne_eqb _ _ c.if-b-eq240.false, le-ltb _ _ c.if-b-lt244.false, ne_eqb _ _ c.if-b-eq244.false))
