use borrow.Author.Tests.{not-true, not-false}
use native.Mathlib.Omega.{arith}
use Rattle.std.proofs.Common.{◌≡◌, sym}
use Rattle.object.specs.Access.{kind_at}
use Rattle.object.specs.declared.Kind.TheVariants as kind
use Rattle.object.proofs.KindLaws.{number_is, number_not}
use Rattle.binary_measure.proofs.KindLaws.{count-other, count-here, line-here}
use Rattle.binary_measure.proofs.count_fits.Goals as goal
use Rattle.binary_measure.proofs.count_fits.Goals.{Else-ne}

lines : (c : Else-ne) → kind_at c.args.ws.now c.args.at ≡ 3
lines c = number_is c.of.result kind.LineBlock _ c.of.ensures (sym (not-false _ (sym c.if-ne.ensures)))

pub returns-then-ne : goal.returns-then-ne
returns-then-ne c = count-other _ _ (number_not c.of.result kind.LineBlock _ c.of.ensures (sym (not-true _ (sym c.if-ne.ensures))))

pub overflow_sub-result : goal.overflow_sub-result
overflow_sub-result c = omega (arith, (line-here _ _ _ c.requires (lines c)).1.0)

pub returns : goal.returns
returns c = count-here _ _ _ c.requires (lines (goal.at.returns c).Else-ne)
