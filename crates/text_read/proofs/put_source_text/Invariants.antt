use lib.ListN.{length}
use Rattle.text_source.specs.Stream.{bytes_left}
use Rattle.text_push.specs.Pushes.{state_of}
use Rattle.text_read.proofs.TextLaws.{Draining}
use Rattle.text_read.proofs.put_source_text.Given as goal

abbrev pub invariant-loop-token : goal.invariant-loop-token
invariant-loop-token l = Draining l.t l.rows l.initial.out l.out l.cur (state_of l.h)

abbrev pub decreases-loop-token : goal.decreases-loop-token
decreases-loop-token l = length (bytes_left l.t l.cur)
