use Prim.Native.Nat.{◌*◌}
use Rattle.word_chars.specs.Stretches.{Clear}
use Rattle.word_chars.proofs.clear_words.Given as goal

abbrev pub invariant-loop-k : goal.invariant-loop-k
invariant-loop-k l = Clear l.ws l.at l.n l.i (3 * l.k)
