use Rattle.format.specs.Basics.{ascii}
use Rattle.text_write.proofs.put_bar.Goals as goal

pub returns : goal.returns
unfolding ascii
returns c = c.put_bytes.ensures
