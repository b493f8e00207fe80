use borrow.Author.Tests.{ne_eqb}
use Rattle.object.specs.Bodies.{kind_number}
use Rattle.object.specs.declared.Kind.TheVariants as kind
use Rattle.object.proofs.KindLaws.{same_kind}
use Rattle.binary_write.proofs.content_at.Goals as goal

pub returns-in_default : goal.returns-in_default
returns-in_default c =
    let k = c.args.kind in
    rw (
      ne_eqb (kind_number k) 2 (λ z. c.in_default.not-Label (same_kind k kind.Label z)),
      ne_eqb (kind_number k) 3 (λ z. c.in_default.not-LineBlock (same_kind k kind.LineBlock z)),
    )
