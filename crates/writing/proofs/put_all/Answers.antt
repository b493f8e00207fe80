-- A copy to the front. Assumes nothing.
use mathlib.Core.Path.{refl, sym, ap, ◌∙◌}
use mathlib.Core.List.{◌++◌}
use lib.ListN.{length, drop}
use Rattle.writing.proofs.WriteLaws.{too_short, filled-fits, written-fits}
use Rattle.writing.proofs.put_all.Goals as goal

pub returns-then-out-part : goal.returns-then-out-part
returns-then-out-part g c = too_short c.args.part.now _ _ refl c.if-out-part.true

pub returns : goal.returns
returns g c =
    let h = c.if-out-part.false in (
      sym (filled-fits _ _ h),
      ap (λ l. l ++ drop (length c.args.part.now) c.args.out.now) c.copy_from_slice.ensures.after ∙ sym (written-fits _ _ h),
    )
