use Rattle.text_to_binary.proofs.BinaryLaws.{prints}
use Rattle.text_to_binary.proofs.text2bin.Goals as goal

pub returns : goal.returns
returns c =
    let a = c.args in
    let p = prints a.input.now a.out.now c.binary_of_text-b.result _ c.binary_of_text-b.ensures _ _ c.print_filled.ensures in
    record { prints_binary = p.0; counts = p.1 }
