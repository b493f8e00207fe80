-- The sums' rule is a test at each byte, which antt computes. Assumes nothing.
use native.Mathlib.Omega.{arith}
use Rattle.text_cells.specs.Cells.{digit_or16}
use Rattle.text_lines.proofs.TestLaws.{within_low, within-high}
use Rattle.text_cells.proofs.DigitLaws.{digit_low, digit_high, digit_value_lem}
use Rattle.text_cells.proofs.digit.Goals as goal

pub returns-then-b-lt48 : goal.returns-then-b-lt48
unfolding digit_or16
returns-then-b-lt48 c = let x = c.args.b in (simp (within_low 48 57 x (omega arith), within_low 65 70 x (omega arith), within_low 97 102 x (omega arith)), omega arith)

pub returns-then-b-gt102 : goal.returns-then-b-gt102
unfolding digit_or16
returns-then-b-gt102 c = let x = c.args.b in (simp (within-high 48 57 x (omega arith), within-high 65 70 x (omega arith), within-high 97 102 x (omega arith)), omega arith)

pub returns-then-place-letter : goal.returns-then-place-letter
returns-then-place-letter c = digit_low _ c.if-b-lt48.false c.if-b-gt102.false c.if-place-letter.true

pub returns-then-letter-place : goal.returns-then-letter-place
returns-then-letter-place c = digit_high _ c.if-b-lt48.false c.if-b-gt102.false c.if-place-letter.false c.if-letter-place.true

pub returns : goal.returns
returns c = digit_value_lem _ c.if-b-lt48.false c.if-b-gt102.false c.if-place-letter.false c.if-letter-place.false
