use mathlib.Core.Path.{refl}
use Rattle.writing.proofs.WriteLaws.{filled-fits, written-fits, too_short}
use Rattle.text_runs.proofs.put_words.Goals as goal

pub returns-then-out-s : goal.returns-then-out-s
returns-then-out-s c = too_short _ _ _ refl c.if-out-s.true

pub returns : goal.returns
returns c =
    let h = c.if-out-s.false in
    rw (c.copy_from_slice.ensures.after, filled-fits c.args.s.now c.args.out.now h, written-fits c.args.s.now c.args.out.now h) (refl, refl)
