-- The cells of four bytes are the first two, or the cells are found one after the other. Assumes nothing.
use mathlib.Core.Path.{ap, ◌∙◌}
use Rattle.format.specs.Utf8.{trim}
use Rattle.text_cells.proofs.CellLaws.{first-four, second-four}
use Rattle.text_cells.proofs.trimmed_cells.Goals as goal

pub returns-then-is_four_wide-2 : goal.returns-then-is_four_wide-2
returns-then-is_four_wide-2 c =
    let s = c.args.s.now in
    let e = c.is_four_wide.ensures c.if-is_four_wide.true in
    let f = c.is_four_wide-then-is_four_wide.ensures c.if-is_four_wide-2.true in
    let a = c.trim-a.ensures.1 in
    let b = c.trim-b.ensures.1 in (
      record { ordered = a.ordered; inside = a.inside; same = a.same ∙ ap trim (first-four s e) },
      record { ordered = b.ordered; inside = b.inside; same = b.same ∙ ap trim (second-four s e f) },
    )
