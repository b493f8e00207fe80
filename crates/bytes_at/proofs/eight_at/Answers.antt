use mathlib.Core.Path.{◌∙◌}
use native.Mathlib.Omega.{arith}
use Rattle.bytes_at.proofs.PlaceLaws.{eight_there, tail_long}
use Rattle.bytes_at.proofs.eight_at.Goals as goal

pub returns-in-Some : goal.returns-in-Some
returns-in-Some c =
    let a = c.args in
    let h = c.in-Some.ensures.cases in
    c.from_le_bytes.ensures ∙ eight_there a.s.now a.a a.a c.in-Some.bytes.now (omega arith) h.enough h.same

pub returns-in-None : goal.returns-in-None
returns-in-None c =
    let a = c.args in
    absurd (tail_long a.s.now a.a 8 c.requires c.in-None.ensures.cases)
