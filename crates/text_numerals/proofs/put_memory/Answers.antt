-- Either part. Assumes nothing.
use Rattle.format.specs.Basics.{ascii}
use Rattle.text_numerals.proofs.put_memory.Goals as goal

pub returns-in-None : goal.returns-in-None
unfolding ascii
returns-in-None c = rw c.in-None.is c.put_bytes.ensures
