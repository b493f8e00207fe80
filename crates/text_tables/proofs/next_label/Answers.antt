use mathlib.Core.Path.{refl}
use Rattle.text_tables.specs.Debug.{label_view}
use Rattle.text_tables.specs.Labels.{label_in}
use Rattle.text_tables.proofs.LabelLaws.{label_inside}
use Rattle.text_tables.proofs.ReadLaws.{read-bad}
use Rattle.text_tables.proofs.next_label.Goals as goal

pub returns-in_default-parse_label_row : goal.returns-in_default-parse_label_row
returns-in_default-parse_label_row c =
    let t = c.args.t.now in
    (refl, read-bad label_in (label_view t) t _ _ _ _ c.in-Some.ensures c.in_default-parse_label_row.ensures)

pub returns : goal.returns
returns c = label_inside _ _ _ _ _ c.in-Some.ensures c.in-Some-parse_label_row.row c.in-Some-parse_label_row.ensures
