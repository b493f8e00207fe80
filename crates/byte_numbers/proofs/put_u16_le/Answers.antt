use mathlib.Core.Path.{refl, ◌∙◌}
use lib.ListN.{length}
use Prim.Native.Nat.{◌≤◌}
use Rattle.format.specs.Digits.{digits_of}
use Rattle.writing.proofs.WriteLaws.{filled-fits, written-fits, too_short}
use Rattle.byte_numbers.proofs.ByteLaws.{two_bytes}
use Rattle.byte_numbers.proofs.put_u16_le.Goals as goal

pub returns-then-out-lt2 : goal.returns-then-out-lt2
unfolding digits_of
returns-then-out-lt2 c = too_short (digits_of 8 2 c.args.v) _ 2 refl c.if-out-lt2.true

pub returns : goal.returns
unfolding digits_of
returns c =
    let v = c.args.v in
    let out = c.args.out.now in
    let h : length (digits_of 8 2 v) ≤ length out = c.if-out-lt2.false in
    rw (c.copy_from_slice.ensures.after ∙ c.to_le_bytes.ensures ∙ two_bytes v, filled-fits (digits_of 8 2 v) out h, written-fits (digits_of 8 2 v) out h) (refl, refl)
