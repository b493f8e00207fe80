-- By the first byte, as the definition asks of it. Assumes nothing.
use native.Mathlib.Omega.{arith}
use Rattle.format.proofs.Utf8Laws.{char_one, char_middle}
use Rattle.utf8.proofs.CharLaws.{char_two, char_three, char_four, char_over, char_end, char_from, char_form}
use Rattle.utf8.proofs.char_at.Goals as goal

pub returns-then-b-lt128 : goal.returns-then-b-lt128
returns-then-b-lt128 c = char_from _ _ c.if-s-at.false (char_one _ _ c.if-b-lt128.true)

pub returns-then-b-lt192 : goal.returns-then-b-lt192
returns-then-b-lt192 c = char_from _ _ c.if-s-at.false (char_middle _ _ c.if-b-lt128.false c.if-b-lt192.true)

pub returns-then-b-lt224 : goal.returns-then-b-lt224
returns-then-b-lt224 c = char_form _ _ c.if-s-at.false 0x80 1 _ c.shortest_form.ensures
    c.follow_bits.ensures (char_two _ _ c.if-b-lt192.false (omega arith))

pub returns-then-b-lt240 : goal.returns-then-b-lt240
returns-then-b-lt240 c = char_form _ _ c.if-s-at.false 0x800 2 _ c.shortest_form-then-b-lt240.ensures
    c.follow_bits-then-b-lt240.ensures (char_three _ _ c.if-b-lt224.false (omega arith))

pub returns-then-b-lt248 : goal.returns-then-b-lt248
returns-then-b-lt248 c = char_form _ _ c.if-s-at.false 0x10000 3 _
    c.shortest_form-then-b-lt248.ensures c.follow_bits-then-b-lt248.ensures (char_four _ _ c.if-b-lt240.false (omega arith))

pub returns : goal.returns
returns c = char_from _ _ c.if-s-at.false (char_over _ _ c.if-b-lt248.false)

pub returns-then-s-at : goal.returns-then-s-at
returns-then-s-at c = char_end _ _ c.if-s-at.true
