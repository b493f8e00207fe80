use mathlib.Core.Path.{refl, ◌∙◌}
use lib.ListN.{length}
use Prim.Native.Nat.{◌≤◌}
use Rattle.format.specs.Digits.{digits_of}
use Rattle.writing.proofs.WriteLaws.{filled-fits, written-fits, too_short}
use Rattle.byte_numbers.proofs.ByteLaws.{eight_bytes}
use Rattle.byte_numbers.proofs.put_u64_le.Goals as goal

pub returns-then-out-lt8 : goal.returns-then-out-lt8
unfolding digits_of
returns-then-out-lt8 c = too_short (digits_of 8 8 c.args.v) _ 8 refl c.if-out-lt8.true

pub returns : goal.returns
unfolding digits_of
returns c =
    let v = c.args.v in
    let out = c.args.out.now in
    let h : length (digits_of 8 8 v) ≤ length out = c.if-out-lt8.false in
    rw (c.copy_from_slice.ensures.after ∙ c.to_le_bytes.ensures ∙ eight_bytes v, filled-fits (digits_of 8 8 v) out h, written-fits (digits_of 8 8 v) out h) (refl, refl)
