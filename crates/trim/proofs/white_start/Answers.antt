-- The rest from the place on has the same trimming as the whole text. Assumes nothing.
use native.Mathlib.Omega.{arith}
use mathlib.Core.Path.{sym, ◌∙◌}
use Prim.Native.Nat.{◌-◌, ◌≤◌}
use lib.ListN.{length}
use Rattle.format.specs.Utf8.{trim_start}
use Rattle.trim.proofs.TrimLaws.{trim_stop, trim-on, white_left}
use Rattle.trim.proofs.white_start.Goals as goal
use Rattle.trim.proofs.white_start.Goals.{Else-n-eq0}

-- the character lies in the text
fits : (c : Else-n-eq0) → c.white_at-n.result ≤ length c.args.s.now -
    c.loop-at.at
fits c = rw c.white_at-n.ensures (white_left c.args.s.now c.loop-at.at)

pub returns-then-n-eq0 : goal.returns-then-n-eq0
unfolding trim_start
returns-then-n-eq0 c =
    let loop = c.loop-at in
    (loop.invariant.0, sym (trim_stop _ (sym c.white_at-n.ensures ∙ c.if-n-eq0.true)) ∙ loop.invariant.1)

pub loop-at-preserved : goal.loop-at-preserved
loop-at-preserved c =
    let loop = c.loop-at in (
      omega (arith, fits c),
      trim-on c.args.s.now loop.at _ c.white_at-n.ensures ∙
          loop.invariant.1,
    )

pub overflow_add-at : goal.overflow_add-at
overflow_add-at c = omega (arith, fits c)

pub loop-at-smaller : goal.loop-at-smaller
loop-at-smaller c = omega (arith, fits c)
