use native.Mathlib.Omega.{arith}
use mathlib.Core.Path.{sym}
use Prim.Native.Nat.{◌+◌, ◌-◌, ◌<◌}
use lib.ListN.{length}
use Rattle.text_cells.proofs.CellLaws.{bar_no0, bar_no1, bar_last, bar_short}
use Rattle.text_cells.proofs.is_divider.Goals as goal

pub returns-then-saturating_sub-at : goal.returns-then-saturating_sub-at
returns-then-saturating_sub-at c =
    let h : length c.args.s.now - c.args.at < 3 = omega (arith, c.saturating_sub.ensures) in sym (bar_short c.args.s.now c.args.at h)

pub returns-then-s-at-ne32 : goal.returns-then-s-at-ne32
returns-then-s-at-ne32 c =
    let h : c.args.at + 2 < length c.args.s.now = omega arith in sym (bar_no0 c.args.s.now c.args.at h c.if-s-at-ne32.true)

pub returns-then-s-at-ne124 : goal.returns-then-s-at-ne124
returns-then-s-at-ne124 c =
    let h : c.args.at + 2 < length c.args.s.now = omega arith in sym (bar_no1 c.args.s.now c.args.at h c.if-s-at-ne124.true)

pub returns : goal.returns
returns c =
    let h : c.args.at + 2 < length c.args.s.now = omega arith in
    bar_last c.args.s.now c.args.at h c.if-s-at-ne32.false c.if-s-at-ne124.false
