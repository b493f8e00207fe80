-- Its address, and what follows it. Assumes nothing.
use Rattle.std.proofs.Common.{refl}
use Rattle.text_cells.proofs.NumberLaws.{hex_small}
use Rattle.text_blocks.proofs.BlockLaws.{block_no0, block-yes}
use Rattle.text_blocks.proofs.next_block.Goals as goal

pub returns-in_default-hex2u16 : goal.returns-in_default-hex2u16
returns-in_default-hex2u16 c = (refl, block_no0 _ _ _ _ _ c.in-Some.ensures c.in_default-hex2u16.ensures)

pub returns : goal.returns
returns c =
    let a = c.in-Some-hex2u16.ensures in
    block-yes _ _ _ _ _ c.in-Some.ensures _ a (hex_small _ _ a) _ _ _ c.in-Some-block_body.ensures
