use mathlib.Core.Path.{sym, ◌∙◌}
use Rattle.binary_words.proofs.SourceLaws.{source-yes, source_else}
use Rattle.binary_words.proofs.has_source.Goals as goal

pub returns-then-has_records : goal.returns-then-has_records
returns-then-has_records c = c.if-has_records.true ∙ sym (source-yes c.args.s.now (sym c.has_records.ensures ∙ c.if-has_records.true))

pub returns-else-has_records : goal.returns-else-has_records
returns-else-has_records c = c.has_records-else-has_records.ensures ∙ source_else c.args.s.now (sym c.has_records.ensures ∙ c.if-has_records.false)
