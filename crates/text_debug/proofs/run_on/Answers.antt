use Rattle.text_debug.specs.LineRuns.{run_on}
use Rattle.text_debug.proofs.run_on.Goals as goal

pub returns-then-s : goal.returns-then-s
unfolding run_on
returns-then-s c = simp (c.if-s.true)

pub returns-else-s : goal.returns-else-s
unfolding run_on
returns-else-s c = simp (c.if-s.false)
