-- A row of the table for each test that held. Assumes nothing.
use borrow.Author.Tests.{eq-eqb, ne_eqb}
use mathlib.Core.Path.{◌∙◌, sym}
use Rattle.utf8.proofs.TableLaws.{row-three}
use Rattle.utf8.proofs.first_of_three.Goals as goal

pub returns-then-b-eq224 : goal.returns-then-b-eq224
returns-then-b-eq224 c = c.waiting.ensures ∙ sym (row-three _ c.requires.0 c.requires.1 ∙ simp (eq-eqb _ _ c.if-b-eq224.true))

pub returns-then-b-eq237 : goal.returns-then-b-eq237
returns-then-b-eq237 c = c.waiting-then-b-eq237.ensures ∙ sym (row-three _ c.requires.0 c.requires.1 ∙ simp (ne_eqb _ _ c.if-b-eq224.false, eq-eqb _ _ c.if-b-eq237.true))

pub returns : goal.returns
returns c = c.waiting-2.ensures ∙ sym (row-three _ c.requires.0 c.requires.1 ∙ simp (ne_eqb _ _ c.if-b-eq224.false, ne_eqb _ _ c.if-b-eq237.false))
