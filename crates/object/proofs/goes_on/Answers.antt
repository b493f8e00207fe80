use mathlib.Core.Path.{sym, ap, ◌∙◌}
use mathlib.Core.Bool.{Bool, not}
use mathlib.Core.List.{List}
use Prim.Native.Nat.{ℕ}
use Rattle.format.specs.Basics.{is_empty}
use Rattle.object.proofs.BodyLaws.{body_out, body_stops, body_goes}
use Rattle.object.proofs.goes_on.Goals as goal

abbrev on : List ℕ → Bool
on xs = not (is_empty xs)

pub returns-then-ws-at : goal.returns-then-ws-at
unfolding is_empty
returns-then-ws-at c = ap on (sym (body_out _ _ c.if-ws-at.true))

pub returns-then-is_head : goal.returns-then-is_head
unfolding is_empty
returns-then-is_head c = ap on (sym (body_stops _ _ c.if-ws-at.false (sym c.is_head.ensures ∙ c.if-is_head.true)))

pub returns : goal.returns
unfolding is_empty
returns c = ap on (sym (body_goes _ _ c.if-ws-at.false (sym c.is_head.ensures ∙ c.if-is_head.false)))
