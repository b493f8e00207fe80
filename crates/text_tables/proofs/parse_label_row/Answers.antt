use mathlib.Core.Path.{ap, ◌∙◌}
use Rattle.format.specs.TextReader.{parse_number}
use Rattle.text_tables.proofs.LabelLaws.{label-bad, label_some}
use Rattle.text_tables.proofs.parse_label_row.Goals as goal

pub returns-in_err-index : goal.returns-in_err-index
returns-in_err-index c =
    rw c.from_residual.ensures
    (label-bad c.args.l.now (c.in_err-index.ensures ∙ ap (parse_number 10 18446744073709551616) c.in-Some.ensures.1.same))

pub returns : goal.returns
returns c =
    let w = c.in-Some.ensures in
    (w.0.ordered, w.0.inside, label_some _ _ 0 c.in-Some.written.name_end (c.in_ok-index.ensures ∙ ap (parse_number 10 18446744073709551616) w.1.same) w.0.same)
