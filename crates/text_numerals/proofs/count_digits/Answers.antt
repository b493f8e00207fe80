-- Compared, or the digits that stand. Assumes nothing.
use Rattle.format.specs.TextWriter.{decimal}
use Rattle.text_numerals.proofs.DigitLaws.{count_of, one_digit, two_digits, three_digits, four_digits, five_digits}
use Rattle.text_numerals.proofs.count_digits.Goals as goal

pub returns-then-n-lt10 : goal.returns-then-n-lt10
returns-then-n-lt10 c = one_digit _ c.if-n-lt10.true

pub returns-then-n-lt100 : goal.returns-then-n-lt100
returns-then-n-lt100 c = two_digits _ c.if-n-lt10.false c.if-n-lt100.true

pub returns-then-n-lt1000 : goal.returns-then-n-lt1000
returns-then-n-lt1000 c = three_digits _ c.if-n-lt100.false c.if-n-lt1000.true

pub returns-then-n-lt10000 : goal.returns-then-n-lt10000
returns-then-n-lt10000 c = four_digits _ c.if-n-lt1000.false c.if-n-lt10000.true

pub returns-then-n-lt100000 : goal.returns-then-n-lt100000
returns-then-n-lt100000 c = five_digits _ c.if-n-lt10000.false c.if-n-lt100000.true

pub returns : goal.returns
unfolding decimal
returns c = let d = c.digits_of-m.ensures in count_of _ _ _ d.0 d.1 d.2
