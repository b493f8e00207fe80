use Rattle.object.specs.Texts.{text_bytes}
use Rattle.text_runs_out.proofs.StartLaws.{Passed}
use Rattle.text_runs_out.proofs.next_line.Given as goal

abbrev pub invariant-loop-i : goal.invariant-loop-i
invariant-loop-i l = Passed (text_bytes l.ws l.at l.n) l.start l.i
