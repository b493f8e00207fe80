use mathlib.Core.Path.{refl}
use Rattle.text_lines.specs.Groups.{group_view}
use Rattle.text_linker.specs.Linker.{linker_in}
use Rattle.text_linker.proofs.LinkerLaws.{linker-inside}
use Rattle.text_tables.proofs.ReadLaws.{read-bad}
use Rattle.text_linker.proofs.next_linker.Goals as goal

pub returns-in_default-parse_linker_row : goal.returns-in_default-parse_linker_row
returns-in_default-parse_linker_row c =
    let t = c.args.t.now in
    (refl, read-bad linker_in (group_view t) t _ _ _ _ c.in-Some.ensures c.in_default-parse_linker_row.ensures)

pub returns : goal.returns
returns c = linker-inside _ _ _ _ _ c.in-Some.ensures c.in-Some-parse_linker_row.row c.in-Some-parse_linker_row.ensures
