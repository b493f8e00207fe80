use mathlib.Core.Path.{◌≡◌, refl, ap, ◌∙◌}
use mathlib.Core.List.{List}
use Prim.Native.Nat.{ℕ}
use mathlib.Core.Bool.{not}
use Rattle.std.specs.Prelude.{Option, Some, None}
use Rattle.std.specs.Option.{is_some}
use Rattle.format.specs.Basics.{is_empty}
use Rattle.gather.specs.Places.{places_of}
use Rattle.gather.specs.Order.{found_from}
use Rattle.binary_words.proofs.has_records.Goals as goal

-- one is found where there are any
found : (kind : ℕ) (s : List ℕ) (r : Option (ℕ × ℕ)) → is_some r ≡ not (is_empty (found_from kind s r))
unfolding is_empty
found kind s (Some f) = refl
found kind s None = refl

pub returns : goal.returns
unfolding places_of
returns c = c.is_some.ensures ∙ found _ c.args.s.now c.next_place.result ∙ ap (λ (z : List ℕ). not (is_empty z)) c.next_place.ensures.0
