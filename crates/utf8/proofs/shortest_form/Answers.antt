-- By the tests that led there. Assumes nothing.
use mathlib.Core.Path.{◌≡◌, sym, ap, ◌∙◌}
use mathlib.Core.Logic.{inl, inr}
use Rattle.std.specs.Prelude.{Option, ℕ}
use mathlib.Core.Option.{some}
use Rattle.format.specs.Utf8.{shortest_form}
use Rattle.utf8.specs.Chars.{bits_of}
use Rattle.utf8.proofs.CharLaws.{scalar-low, scalar-high, not_scalar, form-scalar, form-none}
use Rattle.utf8.proofs.shortest_form.Goals as goal
use Rattle.utf8.proofs.shortest_form.Goals.{In_ok-value}

-- the bits are there
there : (c : In_ok-value) → let args = c.args in
    shortest_form args.least args.more (some c.in_ok-value.value) ≡ shortest_form args.least args.more (bits_of args.bits)
there c =
    let args = c.args in
    ap (λ (b : Option ℕ). shortest_form args.least args.more (bits_of b)) (sym c.in_ok-value.was)

pub returns-then-value-lt55296 : goal.returns-then-value-lt55296
returns-then-value-lt55296 c = form-scalar _ _ _ c.if-value-least.false (scalar-low _ c.if-value-lt55296.true) ∙ there (goal.at.returns-then-value-lt55296 c).In_ok-value

pub returns-then-value-lt57344 : goal.returns-then-value-lt57344
returns-then-value-lt57344 c =
    form-none _ _ _ c.if-value-least.false (not_scalar _ c.if-value-lt55296.false (inl c.if-value-lt57344.true))
    ∙ there (goal.at.returns-then-value-lt57344 c).In_ok-value

pub returns-then-value-gt1114111 : goal.returns-then-value-gt1114111
returns-then-value-gt1114111 c =
    form-none _ _ _ c.if-value-least.false (not_scalar _ c.if-value-lt55296.false (inr c.if-value-gt1114111.true))
    ∙ there (goal.at.returns-then-value-gt1114111 c).In_ok-value

pub returns : goal.returns
returns c =
    form-scalar _ _ _ c.if-value-least.false (scalar-high _ c.if-value-lt57344.false c.if-value-gt1114111.false)
    ∙ there (goal.at.returns c).In_ok-value
