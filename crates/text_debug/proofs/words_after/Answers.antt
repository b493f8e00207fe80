use Rattle.std.proofs.Common.{arith}
use Rattle.text_debug.proofs.RunLaws.{words-none, words_some}
use Rattle.text_debug.proofs.words_after.Goals as goal

pub returns-then-count-eq0 : goal.returns-then-count-eq0
returns-then-count-eq0 c = words-none _ _ c.if-count-eq0.true

pub overflow_add-result : goal.overflow_add-result
overflow_add-result c = omega (arith, c.requires)

pub returns : goal.returns
returns c = words_some _ _ c.if-count-eq0.false
