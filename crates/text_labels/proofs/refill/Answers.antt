use mathlib.Core.Path.{ap}
use Rattle.text_rows.specs.Rows.{number_of}
use Rattle.text_labels.proofs.StreamLaws.{refill_stays, refill_next}
use Rattle.text_labels.proofs.refill.Goals as goal

pub returns-then-s : goal.returns-then-s
returns-then-s c = refill_stays _ _ _ _ c.requires.1 c.if-s.true

pub returns : goal.returns
returns c =
    refill_next _ _ _ _ c.args.s _ _ c.requires.1 c.if-s.false c.requires.0 (ap number_of c.next_window-sorting.ensures.1) c.next_window-sorting.ensures.0
