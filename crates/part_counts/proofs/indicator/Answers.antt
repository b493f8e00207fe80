use borrow.Author.Tests.{eq-eqb, ne_eqb}
use denote.Enum.Bare.{sameb}
use mir.Val.{bool_byte}
use Rattle.std.proofs.Common.{◌≡◌, ℕ, ◌/◌, ◌^◌, Bool, true, false, sym, ◌∙◌}
use Rattle.object.specs.Bodies.{kind_number}
use Rattle.object.specs.contracts.Kind.{the_type}
use Rattle.object.specs.declared.Kind.{Kind}
use Rattle.object.proofs.KindLaws.{number_is, number_not}
use Rattle.part_counts.specs.Parts.{indicator}
use Rattle.part_counts.proofs.indicator.Goals as goal

bit : (j k : Kind) (w : ℕ) → kind_number j ≡ w / 2 ^ 29 → (b : Bool) → b ≡ sameb the_type j k → bool_byte b ≡ indicator (kind_number k) w
unfolding indicator
bit j k w e true t = sym (rw (eq-eqb (w / 2 ^ 29) (kind_number k) (number_is j k _ e t)))
bit j k w e false t = sym (rw (ne_eqb (w / 2 ^ 29) (kind_number k) (number_not j k _ e t)))

pub returns : goal.returns
returns c = c.from.ensures ∙ bit c.of.result c.args.kind c.args.w c.of.ensures c.eq.result c.eq.ensures
