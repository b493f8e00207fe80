-- The count of all below x110000, by the law of `format`. Assumes nothing.
use native.Mathlib.Omega.{arith}
use mathlib.Core.Path.{◌∙◌}
use Rattle.format.proofs.WhiteSpaceLaws.{white_25}
use Rattle.white_space_count.proofs.count_characters.Goals as goal

pub returns : goal.returns
returns c = c.count_white_space.ensures ∙ white_25 0x110000 (omega arith)
