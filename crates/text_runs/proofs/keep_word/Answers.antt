use native.Mathlib.Omega.{arith}
use mathlib.Core.Path.{refl}
use Rattle.text_runs.proofs.keep_word.Goals as goal

pub overflow_add-result : goal.overflow_add-result
overflow_add-result c = omega (arith, c.requires)

pub returns-then-kept-n : goal.returns-then-kept-n
returns-then-kept-n c = (refl, λ h. absurd (omega (arith, h, c.if-kept-n.true)))

pub overflow_add-result-2 : goal.overflow_add-result-2
overflow_add-result-2 c = omega (arith, c.requires)

pub returns : goal.returns
returns c = (refl, λ h. refl)
