-- By how many bytes there are. Assumes nothing.
use native.Mathlib.Omega.{arith}
use Rattle.writing.proofs.TextLaws.{word_none, word-one, word_two, word-three}
use Rattle.writing.proofs.text_word.Goals as goal

pub returns-then-n-eq0 : goal.returns-then-n-eq0
returns-then-n-eq0 c = word_none c.args.s.now c.if-n-eq0.true

pub returns-then-n-eq1 : goal.returns-then-n-eq1
returns-then-n-eq1 c = omega (arith, word-one c.args.s.now c.if-n-eq1.true)

pub returns-then-n-eq2 : goal.returns-then-n-eq2
returns-then-n-eq2 c = omega (arith, word_two c.args.s.now c.if-n-eq2.true)

pub returns : goal.returns
returns c =
    let s = c.args.s.now in
    omega (arith, word-three s (omega arith))
