use mathlib.Core.Path.{◌∙◌}
use Rattle.text_lines.proofs.LineLaws.{eqs-pointwise}
use Rattle.text_lines.proofs.equals.Goals as goal

pub returns : goal.returns
returns c = c.eq.ensures ∙ eqs-pointwise c.args.s.now c.args.t.now
