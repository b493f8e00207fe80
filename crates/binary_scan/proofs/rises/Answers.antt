use mathlib.Core.Path.{◌≡◌, sym, ap, ◌∙◌}
use Prim.Native.Nat.{ℕ}
use native.Mathlib.Omega.{arith}
use native.Mathlib.Nat.{add-zero}
use Rattle.format.specs.Binary.{number_at}
use Rattle.binary_scan.proofs.ScanLaws.{rise_no, rise_yes, rise_end}
use Rattle.binary_scan.proofs.rises.Goals as goal
use Rattle.binary_scan.proofs.rises.Goals.{After-u16_at-in-loop-i}

second : (c : After-u16_at-in-loop-i) → c.u16_at-in-loop-i.result ≡ number_at c.loop-i.i 2 c.args.s.now
second c = c.u16_at-in-loop-i.ensures ∙ ap (λ (k : ℕ). number_at k 2 c.args.s.now) (add-zero c.loop-i.i)

-- src/lib.rt:70:13
pub returns-then-u16_at : goal.returns-then-u16_at
returns-then-u16_at c =
    let l = c.loop-i in
    let s = c.args.s.now in
    sym (rise_no s l.i (omega arith) (omega (arith, c.u16_at.ensures, second (goal.at.returns-then-u16_at c).After-u16_at-in-loop-i))) ∙ l.invariant.1

-- src/lib.rt:68:5
pub loop-i-preserved : goal.loop-i-preserved
loop-i-preserved c =
    let l = c.loop-i in
    let s = c.args.s.now in
    (omega arith, sym (rise_yes s l.i (omega arith) (omega (arith, c.u16_at.ensures, second (goal.at.loop-i-preserved c).After-u16_at-in-loop-i))) ∙ l.invariant.1)

-- src/lib.rt:63:1
pub returns : goal.returns
returns c =
    let l = c.loop-i in
    let s = c.args.s.now in
    sym (rise_end s l.i (omega arith)) ∙ l.invariant.1
