-- Row by row. Assumes nothing.
use Rattle.text_runs.proofs.RunLaws.{keeping_begin, keeping_ends, keeping_on}
use Rattle.text_runs.proofs.next_run.Goals as goal

pub loop-line-init : goal.loop-line-init
loop-line-init c = keeping_begin _ _ _

pub returns-then-w-eq-UNKNOWN : goal.returns-then-w-eq-UNKNOWN
returns-then-w-eq-UNKNOWN c =
    keeping_ends _ _ _ _ _ _ c.loop-line.invariant _ _ _ c.in-Some.ensures _ c.address_word-w.ensures c.if-w-eq-UNKNOWN.true

pub loop-line-preserved : goal.loop-line-preserved
loop-line-preserved c =
    let k = c.keep_word-n in
    keeping_on _ _ _ _ _ _ c.loop-line.invariant _ _ _ c.in-Some.ensures _ c.address_word-w.ensures c.if-w-eq-UNKNOWN.false _ k.ensures.0 _
    k.auto.kept k.ensures.1
