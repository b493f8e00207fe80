use native.Mathlib.Omega.{arith}
use mathlib.Core.Path.{sym}
use Prim.Native.Nat.{◌≤◌}
use Rattle.text_escape.proofs.EscapeLaws.{letter_none, plain}
use Rattle.text_escape.proofs.is_plain.Goals as goal

pub returns : goal.returns
returns c = λ e.
    let b = c.args.b in
    let low : 32 ≤ b = omega arith in
    let high : b ≤ 126 = omega arith in (
      omega arith,
      plain b (sym (letter_none b (omega arith) (omega arith) (omega arith) (omega arith) (omega arith) (omega arith))) low high,
    )
