use Rattle.text_numerals.proofs.DigitLaws.{Making}
use Rattle.text_numerals.proofs.digits_of.Given as goal

abbrev pub invariant-loop-v : goal.invariant-loop-v
invariant-loop-v l = Making l.base l.n l.bytes l.i l.v

abbrev pub decreases-loop-v : goal.decreases-loop-v
decreases-loop-v l = l.v
