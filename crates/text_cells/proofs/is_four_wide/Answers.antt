-- By its bytes. Assumes nothing.
use borrow.Author.Tests.{eqb-false, not-true}
use mathlib.Core.Path.{sym, ◌∙◌}
use Rattle.text_cells.proofs.CellLaws.{four-wide}
use Rattle.text_cells.proofs.is_four_wide.Goals as goal

pub returns : goal.returns
returns c = λ e.
    four-wide c.args.s.now c.args.at c.requires c.if-s-at-eq124.false c.if-s-at-eq124-2.false (eqb-false _ _ (not-true _ e)) (sym c.is_divider.ensures ∙ c.if-not-is_divider.false)
