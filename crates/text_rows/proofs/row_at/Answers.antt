use mathlib.Core.Path.{sym, ◌∙◌}
use Rattle.text_rows.specs.declared.Kind.TheVariants as kind
use Rattle.text_rows.proofs.KindLaws.{kinds_same, kinds_differ}
use Rattle.text_rows.proofs.StepLaws.{row-end, row_block, row-none, row_line, row-span}
use Rattle.text_rows.proofs.row_at.Goals as goal

pub returns-in_err-line : goal.returns-in_err-line
returns-in_err-line c = rw c.from_residual.ensures (row-end _ _ _ c.in_err-line.ensures)

pub returns-then-eq : goal.returns-then-eq
returns-then-eq c = let r = c.in_ok-line.ensures in (row_block _ _ _ _ _ _ r _ (kinds_same c.args.kind kind.Block _ c.eq.ensures c.if-eq.true) c.block_end.ensures, row-span _ _ _ _ _ r)

pub returns-then-ends_table : goal.returns-then-ends_table
returns-then-ends_table c = row-none _ _ _ _ _ _ c.in_ok-line.ensures (sym c.ends_table.ensures ∙ c.if-ends_table.true)

pub returns : goal.returns
returns c =
    let r = c.in_ok-line.ensures in
    (row_line _ _ _ _ _ _ r (kinds_differ c.args.kind kind.Block _ c.eq.ensures c.if-eq.false) (sym c.ends_table.ensures ∙ c.if-ends_table.false), row-span _ _ _ _ _ r)
