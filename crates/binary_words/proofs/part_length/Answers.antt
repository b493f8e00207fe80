use mathlib.Core.Path.{sym}
use Rattle.binary_words.specs.RecordAt.{in_order}
use Rattle.binary_words.proofs.LengthLaws.{no_words}
use Rattle.binary_words.proofs.part_length.Goals as goal

pub returns-in-None : goal.returns-in-None
returns-in-None c =
    let a = c.args in
    sym (no_words a.kind a.s.now (in_order a.kind a.s.now) c.in-None.ensures)
