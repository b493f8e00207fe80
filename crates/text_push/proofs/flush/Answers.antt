use native.Mathlib.Omega.{arith}
use mathlib.Core.Path.{refl}
use Rattle.text_push.proofs.PushLaws.{flush_none, flush_full, flush_there}
use Rattle.text_push.proofs.flush.Goals as goal
use Rattle.text_push.proofs.flush.Goals.{in-One, in-Two}

pub returns-then-out-at : goal.returns-then-out-at
returns-then-out-at c = flush_full _ _ _ c.if-out-at.true

pub returns-in-Nothing : goal.returns-in-Nothing
returns-in-Nothing c = rw c.in-Nothing.is (flush_none _ _ refl)

pub returns : goal.returns
returns c =
    let l = c.if-out-at.false in
    elim c.match-h.branch [ in-One w ↦ rw (w.in-One.is, w.out-is, w.from.ensures) (flush_there _ _ (λ z. absurd (omega arith)) _ refl l) | in-Two w ↦ rw (w.in-Two.is, w.out-is, w.from-in-Two.ensures, w.from-in-Two-2.ensures) (flush_there _ _ (λ z. absurd (omega arith)) _ refl l) ]
