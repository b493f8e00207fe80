use mathlib.Core.Path.{sym, ap}
use Rattle.tariff.specs.Tariff.{payable}
use Rattle.tariff.proofs.payable.Goals as goal

pub returns-then-member : goal.returns-then-member
unfolding payable
returns-then-member c = let a = c.args in sym (ap (λ b. payable b a.sum) c.if-member.true)

pub returns : goal.returns
unfolding payable
returns c = let a = c.args in sym (ap (λ b. payable b a.sum) c.if-member.false)
