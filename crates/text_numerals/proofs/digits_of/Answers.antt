-- A digit a turn, from the last. Assumes nothing.
use native.Mathlib.Omega.{arith}
use mathlib.Core.Path.{◌∙◌}
use Prim.Native.Nat.{◌-◌}
use lib.ListN.{length-set}
use Rattle.text_numerals.proofs.DigitLaws.{making_on, making_end}
use Rattle.text_numerals.proofs.digits_of.Goals as goal

pub loop-v-preserved : goal.loop-v-preserved
loop-v-preserved c = making_on _ _ _ _ _ c.requires.0 c.loop-v.invariant c.loop-v-test.true _ c.digit-d.ensures

pub returns : goal.returns
returns c =
    let m = c.loop-v.invariant in (
      omega (arith, m.place, m.few),
      length-set c.loop-v.bytes (c.loop-v.i - 1) c.digit-d-2.result ∙ m.size,
      making_end _ _ _ _ _ c.requires.0 m c.loop-v-test.false _ c.digit-d-2.ensures,
    )
