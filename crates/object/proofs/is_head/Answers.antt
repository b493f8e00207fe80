use Rattle.object.proofs.WordLaws.{head-one, head-other}
use Rattle.object.proofs.is_head.Goals as goal

pub returns-then-k-eq1 : goal.returns-then-k-eq1
returns-then-k-eq1 c = head-one _ c.if-k-eq1.true

pub returns : goal.returns
returns c = head-other _ c.if-k-eq1.false
