use Rattle.std.proofs.Common.{◌≡◌, ◌+◌, length}
use Rattle.object.specs.Bodies.{body_at, good_text}
use Rattle.object.proofs.TextLaws.{text_on}
use Rattle.word_checks.proofs.text_end.Given as goal

abbrev pub invariant-loop-i : goal.invariant-loop-i
invariant-loop-i l = (l.i + length (body_at l.ws l.i) ≡ l.at + length (body_at l.ws l.at))
    × (text_on l.u l.full (body_at l.ws l.i) ≡ good_text (body_at l.ws l.at))
