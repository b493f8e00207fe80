use mathlib.Core.Path.{◌≡◌, ap, ◌∙◌}
use mathlib.Core.List.{[]}
use mathlib.Core.Option.{some}
use lib.ListN.{get_or}
use Rattle.format.specs.Utf8.{trim}
use Rattle.format.specs.TextReader.{splitn, hex2u16, parse_number}
use Rattle.text_tables.proofs.CellLaws.{first_of_three, second_of_three, third_of_three}
use Rattle.text_tables.proofs.SymbolLaws.{sym_bad0, sym_bad1, sym_row}
use Rattle.text_tables.proofs.find_symbol_row.Goals as goal
use Rattle.text_tables.proofs.find_symbol_row.Goals.{In_ok-address}

-- the ADDR cell's number
address : (c : In_ok-address) → some c.in_ok-address.address ≡ hex2u16 (trim (get_or (splitn 2 c.args.l.now) 0 []))
address c = c.in_ok-address.ensures ∙ ap hex2u16 (first_of_three _ c.next_cell-c.result c.next_cell-c.ensures).same

pub returns-in_err-address : goal.returns-in_err-address
returns-in_err-address c =
    rw c.from_residual.ensures
    (sym_bad0 c.args.l.now (c.in_err-address.ensures ∙ ap hex2u16 (first_of_three _ c.next_cell-c.result c.next_cell-c.ensures).same))

pub returns-in_err-external : goal.returns-in_err-external
returns-in_err-external c =
    let d = second_of_three _ c.next_cell-c.result c.next_cell-c.ensures c.next_cell-d.result c.next_cell-d.ensures in
    let k = (goal.at.returns-in_err-external c).In_ok-address in
    rw c.from_residual-in_err-external.ensures
    (sym_bad1 c.args.l.now c.in_ok-address.address (address k) (c.in_err-external.ensures ∙ ap (parse_number 10 256) d.same))

pub returns : goal.returns
returns c =
    let d = second_of_three _ c.next_cell-c.result c.next_cell-c.ensures c.next_cell-d.result c.next_cell-d.ensures in
    let n = third_of_three _ c.next_cell-c.result c.next_cell-c.ensures c.next_cell-d.result c.next_cell-d.ensures c.trim-n.result c.trim-n.ensures in
    let k = (goal.at.returns c).In_ok-address in
    (n.ordered, n.inside, sym_row _ _ _ c.trim-n.result.start c.trim-n.result.end (address k) (c.in_ok-external.ensures ∙ ap (parse_number 10 256) d.same) n.same)
