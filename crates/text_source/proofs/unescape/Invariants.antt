use Rattle.std.proofs.Common.{◌≡◌, ◌^◌, ◌<◌, length}
use Rattle.text_source.specs.Stream.{bytes_left}
use Rattle.text_source.specs.Unescape.{tokens_left}
use Rattle.text_source.proofs.UnescapeLaws.{counted_from}
use Rattle.text_source.proofs.unescape.Given as goal

abbrev pub invariant-loop-token : goal.invariant-loop-token
invariant-loop-token l = (l.n < 2 ^ 64) × (counted_from l.n (tokens_left l.t l.cur) ≡ counted_from 0 (tokens_left l.t l.initial.cur))

abbrev pub decreases-loop-token : goal.decreases-loop-token
decreases-loop-token l = length (bytes_left l.t l.cur)
