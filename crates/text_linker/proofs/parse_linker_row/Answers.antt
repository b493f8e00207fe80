use mathlib.Core.Path.{ap, ◌∙◌}
use Rattle.format.specs.TextReader.{hex2u16}
use Rattle.text_linker.proofs.LinkerLaws.{linker-bad, linker_some}
use Rattle.text_linker.proofs.parse_linker_row.Goals as goal

pub returns-in_err-address : goal.returns-in_err-address
returns-in_err-address c =
    rw c.from_residual.ensures (linker-bad c.args.l.now (c.in_err-address.ensures ∙ ap hex2u16 c.trimmed_cell-c.ensures.same))

pub returns : goal.returns
returns c =
    let n = c.trimmed_cell-n in
    (n.ensures.ordered, n.ensures.inside, linker_some _ _ n.result.start n.result.end (c.in_ok-address.ensures ∙ ap hex2u16 c.trimmed_cell-c.ensures.same) n.ensures.same)
