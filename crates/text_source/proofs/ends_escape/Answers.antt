use Rattle.std.proofs.Common.{◌∙◌}
use Rattle.text_source.proofs.UnescapeLaws.{ends-other, ends-empty, ends-scalar}
use Rattle.text_source.proofs.ends_escape.Goals as goal

pub returns-then-b-ne125 : goal.returns-then-b-ne125
returns-then-b-ne125 c = ends-other _ _ _ c.if-b-ne125.true

pub returns-then-n-eq0 : goal.returns-then-n-eq0
returns-then-n-eq0 c = ends-empty _ _ _ c.if-n-eq0.true

pub returns : goal.returns
returns c = c.is_scalar.ensures ∙ ends-scalar _ _ _ c.if-b-ne125.false c.if-n-eq0.false
