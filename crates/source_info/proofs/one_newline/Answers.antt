use mir.Val.{bool_byte}
use borrow.Author.Tests.{eqb-true, eqb-false}
use Rattle.std.proofs.Common.{◌≡◌, ℕ, eqb, [], ◌∷◌, ap, ◌∙◌}
use Rattle.format.specs.Source.{newlines}
use Rattle.format.proofs.ListLaws.{by_test}
use Rattle.source_info.proofs.CountLaws.{one-yes, one_no}
use Rattle.source_info.proofs.one_newline.Goals as goal

bit : (b : ℕ) → bool_byte (eqb b 10) ≡ newlines (b ∷ [])
bit b =
    by_test (eqb b 10)
    (λ t. ap bool_byte t ∙ one-yes b (eqb-true b 10 t))
    (λ t. ap bool_byte t ∙ one_no b (eqb-false b 10 t))

pub returns : goal.returns
returns c = c.from.ensures ∙ bit c.args.b
