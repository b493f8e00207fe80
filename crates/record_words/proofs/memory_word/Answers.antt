-- By the flag. Assumes nothing.
use Rattle.record_words.proofs.RecordLaws.{memory_yes, memory_no}
use Rattle.record_words.proofs.memory_word.Goals as goal

pub returns-then-f-eq255 : goal.returns-then-f-eq255
returns-then-f-eq255 c = rw (c.from.ensures, c.from-then-f-eq255.ensures) (memory_yes c.args.f c.args.a c.args.b c.if-f-eq255.true)

pub returns : goal.returns
returns c = memory_no c.args.f c.args.a c.args.b c.if-f-eq255.false
