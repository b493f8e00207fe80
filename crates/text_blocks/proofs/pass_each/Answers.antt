-- Entry by entry. Assumes nothing.
use Rattle.std.proofs.Common.{◌≡◌, ◌+◌, ◌-◌, subst, arith}
use Rattle.text_blocks.proofs.BlockLaws.{Passing, passing_on, passing_end}
use Rattle.text_blocks.proofs.pass_each.Goals as goal

pub loop-passed-preserved : goal.loop-passed-preserved
loop-passed-preserved c =
    let n = c.args.n in
    let k = c.loop-passed.passed in
    let e = c.in_ok-i.ensures in
    let less : n - k - 1 ≡ n - (k + 1) = omega arith in
    subst (Passing c.args.t.now c.args.at n c.in_ok-i.i) less
    (passing_on _ _ _ _ _ _ _ _ c.loop-passed.invariant e.row e.entry (omega (arith, c.loop-passed-test.true)) e.read)

pub returns : goal.returns
returns c = passing_end _ _ _ _ _ c.loop-passed.invariant (omega (arith, c.loop-passed-test.false))
