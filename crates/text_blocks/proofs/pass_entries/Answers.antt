-- By the constant table. Assumes nothing.
use Rattle.std.proofs.Common.{refl}
use Rattle.text_cells.specs.Cells.{digit_or16}
use Rattle.text_blocks.specs.Blocks.{entry_digit, table_from, is_table}
use Rattle.text_blocks.proofs.pass_entries.Goals as goal

pub pass_each-requires : goal.pass_each-requires
unfolding is_table table_from entry_digit digit_or16
pass_each-requires c = refl
