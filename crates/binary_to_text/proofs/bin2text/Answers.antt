use Rattle.binary_to_text.proofs.TextLaws.{prints}
use Rattle.binary_to_text.proofs.bin2text.Goals as goal

pub returns : goal.returns
returns c =
    let a = c.args in
    let p = prints a.input.now a.out.now c.text_of_binary-t.result _ c.text_of_binary-t.ensures _ _ c.print_filled.ensures in
    record { prints_text = p.0; counts = p.1 }
