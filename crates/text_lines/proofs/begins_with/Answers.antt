use native.Mathlib.Omega.{arith}
use Rattle.text_lines.proofs.LineLaws.{begins-none, begins_at}
use Rattle.text_lines.proofs.begins_with.Goals as goal

pub returns-then-s-eq0 : goal.returns-then-s-eq0
returns-then-s-eq0 c = begins-none _ _ c.if-s-eq0.true

pub returns : goal.returns
returns c = begins_at _ _ (omega arith)
