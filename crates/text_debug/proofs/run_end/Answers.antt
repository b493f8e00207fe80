use Rattle.text_debug.specs.LineRuns.{run_end}
use Rattle.text_debug.proofs.run_end.Goals as goal

pub returns-then-s : goal.returns-then-s
unfolding run_end
returns-then-s c = simp (c.words_after.ensures, c.if-s.true)

pub returns-else-s : goal.returns-else-s
unfolding run_end
returns-else-s c = simp (c.words_after.ensures, c.if-s.false)
