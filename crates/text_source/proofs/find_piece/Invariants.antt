use Rattle.std.proofs.Common.{◌≡◌, ◌-◌, ◌≤◌, ◌++◌, length}
use Rattle.trim.specs.Span.{part}
use Rattle.text_source.specs.Stream.{source_from}
use Rattle.text_source.proofs.find_piece.Given as goal

abbrev pub invariant-loop-end : goal.invariant-loop-end
invariant-loop-end l = (l.end ≤ length l.t) × (part l.at l.end l.t ++ source_from l.t l.next ≡ part l.initial.at l.initial.end l.t ++ source_from l.t l.initial.next)

abbrev pub decreases-loop-end : goal.decreases-loop-end
decreases-loop-end l = length l.t - l.next
