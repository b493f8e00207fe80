use native.Mathlib.Omega.{arith}
use mathlib.Core.Path.{refl}
use Rattle.text_push.proofs.PushLaws.{push_first, push_second, push_third}
use Rattle.text_push.proofs.push.Goals as goal

pub returns-in-Nothing : goal.returns-in-Nothing
returns-in-Nothing c = rw c.in-Nothing.is (push_first _ _ _ refl)

pub returns-in-One : goal.returns-in-One
returns-in-One c = rw c.in-One.is (push_second _ _ _ (λ z. absurd (omega arith)) refl)

pub returns-in-Two : goal.returns-in-Two
returns-in-Two c = rw c.in-Two.is (push_third _ _ _ (λ z. absurd (omega arith)) (λ z. absurd (omega arith)) _ _ c.store_word.ensures)
