-- Where no head was found, the words passed go on. Assumes nothing.
use native.Mathlib.Omega.{arith}
use mathlib.Core.Path.{sym, ◌∙◌}
use mathlib.Core.Bool.{true≢false}
use Rattle.object.proofs.BodyLaws.{same_more}
use Rattle.object.proofs.is_body_block.Goals as goal
use Rattle.object.proofs.is_body_block.Goals.{else-is_head, then-is_head}

pub loop-k-preserved : goal.loop-k-preserved
loop-k-preserved c =
    let a = c.args in
    let l = c.loop-k in
    elim c.if-is_head.branch [
      | then-is_head w ↦ λ e. absurd (true≢false (sym e ∙ w.all-is))
      | else-is_head w ↦ λ e. same_more a.ws.now a.at l.k (l.invariant (sym w.all-is ∙ e)) (omega arith)
          (sym c.is_head.ensures ∙ w.if-is_head.false)
    ]
