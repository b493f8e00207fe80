use mathlib.Core.Path.{sym, ◌∙◌}
use native.Mathlib.Omega.{arith}
use Rattle.object.proofs.NumberLaws.{number-few, number_good, number-bad}
use Rattle.object.proofs.read_number.Goals as goal

pub returns-then-is_number : goal.returns-then-is_number
returns-then-is_number c =
    (rw c.joined.ensures (number_good _ _ (omega arith) (sym c.is_number.ensures ∙ c.if-is_number.true)), omega arith)

pub returns-then-n-lt3 : goal.returns-then-n-lt3
returns-then-n-lt3 c = number-few _ _ (omega arith)

pub returns-then-n-at : goal.returns-then-n-at
returns-then-n-at c = number-few _ _ (omega arith)

pub returns : goal.returns
returns c = number-bad _ _ (omega arith) (sym c.is_number.ensures ∙ c.if-is_number.false)
