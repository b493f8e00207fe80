use mathlib.Core.Path.{ap, ◌∙◌}
use mathlib.Core.List.{[]}
use lib.ListN.{get_or}
use Rattle.format.specs.Utf8.{trim}
use Rattle.format.specs.TextReader.{splitn, parse_number}
use Rattle.trim.specs.Span.{Spans}
use Rattle.text_tables.proofs.CellLaws.{first_of_two, second_of_two}
use Rattle.text_tables.proofs.LabelLaws.{label-bad, label_some}
use Rattle.text_tables.proofs.find_label_row.Goals as goal
use Rattle.text_tables.proofs.find_label_row.Goals.{After-trim-d}

-- the INDEX cell
second : (c : After-trim-d) → let l = c.args.l.now in
    Spans l c.trim-d.result.start c.trim-d.result.end (trim (get_or (splitn 1 l) 1 []))
second c = second_of_two _ c.next_cell-n.result c.next_cell-n.ensures c.trim-d.result c.trim-d.ensures

pub returns-in_err-index : goal.returns-in_err-index
returns-in_err-index c =
    rw c.from_residual.ensures
    (label-bad c.args.l.now (c.in_err-index.ensures ∙ ap (parse_number 10 18446744073709551616) (second (goal.at.returns-in_err-index c).After-trim-d).same))

pub returns : goal.returns
returns c =
    let n = first_of_two _ c.next_cell-n.result c.next_cell-n.ensures in
    (n.ordered, n.inside, label_some _ _ c.next_cell-n.result.start c.next_cell-n.result.end (c.in_ok-index.ensures ∙ ap (parse_number 10 18446744073709551616) (second (goal.at.returns c).After-trim-d).same) n.same)
