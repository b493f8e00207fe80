use mathlib.Core.Path.{sym, ◌∙◌}
use Rattle.text_rows.specs.declared.Kind.TheVariants as kind
use Rattle.text_rows.proofs.KindLaws.{kinds_same, kinds_differ}
use Rattle.text_rows.proofs.StepLaws.{first_block, first-none, first_bar, first-line}
use Rattle.text_rows.proofs.first_row.Goals as goal

pub returns-then-eq : goal.returns-then-eq
returns-then-eq c = first_block _ _ _ (kinds_same c.args.kind kind.Block _ c.eq.ensures c.if-eq.true)

pub returns-in_default : goal.returns-in_default
returns-in_default c = first-none _ _ _ c.in_default.ensures

pub returns-then-ends_table : goal.returns-then-ends_table
returns-then-ends_table c = first_bar _ _ _ _ _ _ c.in-Some.ensures (kinds_differ c.args.kind kind.Block _ c.eq.ensures c.if-eq.false) (sym c.ends_table.ensures ∙ c.if-ends_table.true)

pub returns : goal.returns
returns c = first-line _ _ _ _ _ _ c.in-Some.ensures (kinds_differ c.args.kind kind.Block _ c.eq.ensures c.if-eq.false) (sym c.ends_table.ensures ∙ c.if-ends_table.false)
