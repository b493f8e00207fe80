use Rattle.text_rows.specs.Rows.{count_in, first_line}
use Rattle.text_rows.proofs.StepLaws.{block_on}
use Rattle.text_rows.proofs.block_end.Goals as goal

pub returns : goal.returns
unfolding count_in first_line
returns c = block_on _ _ _ _ _ _ _ c.in-Some.ensures c.count_of.ensures c.skip_rows.ensures
