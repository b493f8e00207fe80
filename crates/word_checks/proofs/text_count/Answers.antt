use Rattle.std.proofs.Common.{arith}
use Rattle.object.proofs.TextLaws.{part_1, part_2, part_3, part-long, part-other}
use Rattle.word_checks.proofs.text_count.Goals as goal

pub returns-then-top-eq227 : goal.returns-then-top-eq227
returns-then-top-eq227 c = (omega arith, part_3 _ c.if-top-eq227.true)

pub returns-then-w-lt65536 : goal.returns-then-w-lt65536
returns-then-w-lt65536 c = (omega arith, part_2 _ c.if-top-eq226.true c.if-w-lt65536.true)

pub returns-then-top-eq226 : goal.returns-then-top-eq226
returns-then-top-eq226 c = (omega arith, part-long _ 2 c.if-top-eq226.true (omega arith) (omega arith) c.if-w-lt65536.false)

pub returns-then-w-lt256 : goal.returns-then-w-lt256
returns-then-w-lt256 c = (omega arith, part_1 _ c.if-top-eq225.true c.if-w-lt256.true)

pub returns-then-top-eq225 : goal.returns-then-top-eq225
returns-then-top-eq225 c = (omega arith, part-long _ 1 c.if-top-eq225.true (omega arith) (omega arith) c.if-w-lt256.false)

pub returns : goal.returns
returns c = (omega arith, part-other _ c.if-top-eq227.false c.if-top-eq226.false c.if-top-eq225.false)
