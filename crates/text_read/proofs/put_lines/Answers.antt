use mathlib.Core.Path.{refl}
use mathlib.Core.Bool.{true, false}
use Rattle.text_read.proofs.PartLaws.{lines_none, lines_some, none_each, same-each}
use Rattle.text_read.proofs.put_lines.Goals as goal

pub returns-in-Some : goal.returns-in-Some
returns-in-Some c = rw c.in-Some.is (same-each _ _ _ _ _ c.put_line_blocks.ensures (lines_some true _ _ refl))

pub returns-in-None : goal.returns-in-None
returns-in-None c = rw c.in-None.is (none_each _ _ (lines_none false _ _ refl))
