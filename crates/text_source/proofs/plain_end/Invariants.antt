use Rattle.std.proofs.Common.{◌≤◌}
use Rattle.text_source.specs.Unescape.{Plain}
use Rattle.text_source.proofs.plain_end.Given as goal

abbrev pub invariant-loop-i : goal.invariant-loop-i
invariant-loop-i l = (l.at ≤ l.i) × Plain l.t l.at l.i
