use Rattle.text_words.proofs.WordLaws.{Putting}
use Rattle.text_words.proofs.put_entries.Given as goal

abbrev pub invariant-loop-i : goal.invariant-loop-i
invariant-loop-i l = Putting l.t l.from l.n l.initial.out l.out l.i l.at
