use Rattle.text_runs.proofs.RunLaws.{Putting}
use Rattle.text_runs.proofs.put_addresses.Given as goal

abbrev pub invariant-loop-i : goal.invariant-loop-i
invariant-loop-i l = Putting l.t l.from l.n l.initial.out l.out l.i l.at
