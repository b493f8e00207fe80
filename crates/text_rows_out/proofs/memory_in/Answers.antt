use mathlib.Core.Path.{refl, ap, ◌∙◌}
use Rattle.text_numerals.specs.Memory.{word_of}
use Rattle.text_rows_out.proofs.RowLaws.{memory_known}
use Rattle.text_rows_out.proofs.memory_in.Goals as goal

pub returns : goal.returns
returns c = ap word_of c.then_some.ensures ∙ memory_known c.args.w _ refl
