use mathlib.Core.Path.{sym, ap, ◌∙◌}
use Rattle.format.specs.Calls.{measured}
use Rattle.binary_read.proofs.ReadLaws.{read_10, read-on}
use Rattle.binary_read.proofs.binary_length.Goals as goal

pub returns-then-has_header : goal.returns-then-has_header
returns-then-has_header c =
    c.records_length.ensures ∙ sym (ap measured (read-on _ (sym c.has_header.ensures ∙ c.if-has_header.true)))

pub returns-else-has_header : goal.returns-else-has_header
unfolding measured
returns-else-has_header c =
    sym (ap measured (read_10 _ (sym c.has_header.ensures ∙ c.if-has_header.false)))
