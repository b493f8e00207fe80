-- A block more. Assumes nothing.
use native.Mathlib.Omega.{arith}
use Rattle.std.proofs.Common.{ltb, ltb-true, ltb-false}
use Rattle.text_lines.proofs.LineLaws.{block_lacks}
use Rattle.text_lines.proofs.TestLaws.{by_test}
use Rattle.text_source.proofs.plain_blocks.Goals as goal

pub loop-i-preserved : goal.loop-i-preserved
loop-i-preserved c =
    let l = c.loop-i in
    let f = block_lacks 0x5C c.args.t.now l.i c.args.n (omega (arith, c.requires, l.invariant, c.loop-i-test.true)) (c.has_byte.ensures.0 c.if-not-has_byte.true) in (
      omega (arith, l.invariant),
      omega (arith, l.invariant, c.loop-i-test.true),
      λ j p q. by_test (ltb j l.i) (λ u. l.invariant.2 j p (ltb-true j l.i u)) (λ u. f j (ltb-false j l.i u) q),
    )
