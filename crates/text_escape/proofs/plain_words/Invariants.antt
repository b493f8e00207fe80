use Prim.Native.Nat.{◌-◌, ◌*◌}
use Rattle.word_chars.specs.Stretches.{Stretch}
use Rattle.text_escape.specs.Escaped.{Itself}
use Rattle.text_escape.proofs.plain_words.Given as goal

abbrev pub invariant-loop-k : goal.invariant-loop-k
invariant-loop-k l = Stretch Itself l.ws l.at l.end l.i (3 * l.k)

abbrev pub decreases-loop-k : goal.decreases-loop-k
decreases-loop-k l = l.words - l.k
