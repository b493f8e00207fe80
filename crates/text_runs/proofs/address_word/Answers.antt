use mathlib.Core.Path.{ap, ◌∙◌}
use Prim.Native.Nat.{ℕ, ◌+◌}
use Rattle.text_runs.proofs.RunLaws.{word-known, word_unknown, word-bad}
use Rattle.text_runs.proofs.address_word.Goals as goal

pub returns-in-Some-address : goal.returns-in-Some-address
returns-in-Some-address c = ap (λ (n : ℕ). 0x2001_0000 + n) c.from.ensures ∙ word-known _ c.in-Some.row _ c.in-Some.ensures c.in-Some-address.is

pub returns-in-None : goal.returns-in-None
returns-in-None c = word_unknown _ c.in-Some.row c.in-Some.ensures c.in-None.is

pub returns-in_default : goal.returns-in_default
returns-in_default c = word-bad _ c.in_default.ensures
