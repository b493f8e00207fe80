use mathlib.Core.Path.{sym, ◌∙◌}
use Rattle.text_rows.specs.declared.Kind.TheVariants as kind
use Rattle.text_rows.proofs.KindLaws.{kinds_same, kinds_differ}
use Rattle.text_rows.proofs.StepLaws.{ends-other, ends_bar}
use Rattle.text_rows.proofs.ends_table.Goals as goal

pub returns-then-eq : goal.returns-then-eq
returns-then-eq c = c.begins_with.ensures ∙ ends_bar _ _ (kinds_same c.args.kind kind.Start _ c.eq.ensures c.if-eq.true)

pub returns-else-eq : goal.returns-else-eq
returns-else-eq c = c.if-eq.false ∙ sym (ends-other _ _ (kinds_differ c.args.kind kind.Start _ c.eq.ensures c.if-eq.false))
