use mathlib.Core.Path.{refl}
use Rattle.text_lines.specs.Groups.{group_view}
use Rattle.text_tables.specs.Symbols.{symbol_in}
use Rattle.text_tables.proofs.SymbolLaws.{symbol-inside}
use Rattle.text_tables.proofs.ReadLaws.{read-bad}
use Rattle.text_tables.proofs.next_symbol.Goals as goal

pub returns-in_default-parse_symbol_row : goal.returns-in_default-parse_symbol_row
returns-in_default-parse_symbol_row c =
    let t = c.args.t.now in
    (refl, read-bad symbol_in (group_view t) t _ _ _ _ c.in-Some.ensures c.in_default-parse_symbol_row.ensures)

pub returns : goal.returns
returns c = symbol-inside _ _ _ _ _ c.in-Some.ensures c.in-Some-parse_symbol_row.row c.in-Some-parse_symbol_row.ensures
