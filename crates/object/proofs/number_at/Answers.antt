use Rattle.std.proofs.Common.{◌≡◌, ℕ, List, sym, ap, ◌∙◌, Option, Some, None}
use Rattle.std.specs.Option.{unwrap_or}
use Rattle.object.specs.Bodies.{number_at, value_in, Numbered}
use Rattle.object.proofs.number_at.Goals as goal

value : (ws : List ℕ) (at : ℕ) (r : Option ℕ) → Numbered ws at r → unwrap_or r 0 ≡ number_at ws at
unfolding number_at
value ws at (Some v) h = sym (ap value_in h.0)
value ws at None h = sym (ap value_in h)

pub returns : goal.returns
returns c = c.unwrap_or.ensures ∙ value _ _ c.read_number.result c.read_number.ensures
