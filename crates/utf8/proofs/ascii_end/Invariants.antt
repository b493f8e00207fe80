use Rattle.utf8.specs.Utf8.{Ascii}
use Rattle.utf8.proofs.ascii_end.Given as goal

abbrev pub invariant-loop-i : goal.invariant-loop-i
invariant-loop-i l = Ascii l.s l.at l.i
