use Rattle.std.proofs.Common.{length}
use Rattle.text_source.specs.Stream.{bytes_left}
use Rattle.text_source.proofs.UnescapeLaws.{Digits}
use Rattle.text_source.proofs.escaped.Given as goal

abbrev pub invariant-loop-b : goal.invariant-loop-b
invariant-loop-b l = Digits (bytes_left l.t l.initial.cur) (bytes_left l.t l.cur) l.n l.v

abbrev pub decreases-loop-b : goal.decreases-loop-b
decreases-loop-b l = length (bytes_left l.t l.cur)
