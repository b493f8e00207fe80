-- Word by word, and byte by byte. Assumes nothing.
use mathlib.Core.Path.{refl}
use Rattle.text_push.proofs.PushLaws.{pushing_on, pushing_three, pushing_end}
use Rattle.text_push.proofs.push_bytes.Goals as goal

pub loop-i-preserved-then-s-i-ge3 : goal.loop-i-preserved-then-s-i-ge3
loop-i-preserved-then-s-i-ge3 c =
    pushing_three _ _ _ _ _ _ (rw c.in-Nothing.is at c.loop-i.invariant) c.if-s-i-ge3.true refl _ _ c.store_word-h.auto.out c.store_word-h.ensures

pub loop-i-preserved : goal.loop-i-preserved
loop-i-preserved c =
    pushing_on _ _ _ _ _ _ c.loop-i.invariant c.loop-i-test.true _ _ c.push-h.auto.out c.push-h.ensures

pub returns : goal.returns
returns c = pushing_end _ _ _ _ _ _ c.loop-i.invariant c.loop-i-test.false
