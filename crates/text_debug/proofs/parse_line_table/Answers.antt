-- Its header, and its rows. Assumes nothing.
use Rattle.std.proofs.Common.{sym, ◌∙◌}
use Rattle.text_debug.specs.LineTable.{table_view}
use Rattle.text_debug.proofs.LineTableLaws.{lines_none, header-bad, header_good}
use Rattle.text_debug.proofs.parse_line_table.Goals as goal

pub returns-in_default : goal.returns-in_default
returns-in_default c = rw c.no_lines.ensures (lines_none _ c.in_default.ensures c.args.sourced)

pub returns-then-not-parse_line_header : goal.returns-then-not-parse_line_header
returns-then-not-parse_line_header c =
    header-bad _ _ _ _ _ c.in-Some.ensures (sym c.parse_line_header.ensures ∙ c.if-not-parse_line_header.true) _

pub returns : goal.returns
returns c =
    header_good _ _ _ _ _ c.in-Some.ensures (sym c.parse_line_header.ensures ∙ c.if-not-parse_line_header.false) _ (table_view c.parse_rows.result) c.parse_rows.ensures
