use native.Mathlib.Omega.{arith}
use Rattle.text_lines.proofs.ShortLaws.{four-short, four-there}
use Rattle.text_lines.proofs.is_four_long.Goals as goal

pub returns-then-t-lt5 : goal.returns-then-t-lt5
returns-then-t-lt5 c = four-short _ _ (omega arith)

pub returns-then-t-at : goal.returns-then-t-at
returns-then-t-at c = four-short _ _ (omega arith)

pub returns : goal.returns
returns c = four-there _ _ (omega arith)
