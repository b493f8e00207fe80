-- By the sum of the four. Assumes nothing.
use Rattle.text_blocks.proofs.EntryLaws.{word_digits, word_unread, word_none}
use Rattle.text_blocks.proofs.four_word.Goals as goal

pub returns-then-sum-lt61 : goal.returns-then-sum-lt61
returns-then-sum-lt61 c = word_digits _ _ _ _ c.if-sum-lt61.true

pub returns-then-sum-eq244 : goal.returns-then-sum-eq244
returns-then-sum-eq244 c = word_unread _ _ _ _ c.if-sum-lt61.false c.if-sum-eq244.true

pub returns : goal.returns
returns c = word_none _ _ _ _ c.if-sum-lt61.false c.if-sum-eq244.false
