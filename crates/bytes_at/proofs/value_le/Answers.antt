use native.Mathlib.Omega.{arith}
use mathlib.Core.Path.{◌≡◌, sym, ap, ◌∙◌}
use Prim.Native.Nat.{ℕ, suc, ◌<◌, ◌-◌, ◌^◌}
use lib.ListN.{drop}
use lib.Seq.{drop-length}
use Rattle.format.specs.Digits.{value_of}
use Rattle.bytes_at.proofs.PlaceLaws.{value_small, value-more}
use Rattle.bytes_at.proofs.value_le.Goals as goal
use Rattle.bytes_at.proofs.value_le.Goals.{In-loop-i}

-- seven bytes at most have been read
small : (c : In-loop-i) → c.loop-i.v < 256 ^ 7
small c = rw c.loop-i.invariant (value_small c.args.s.now c.loop-i.i (λ k. (c.type_inv.s k).fits) (omega arith))

pub loop-i-init : goal.loop-i-init
unfolding value_of
loop-i-init c = sym (ap (value_of 8) (drop-length c.args.s.now))

pub overflow_mul-v : goal.overflow_mul-v
overflow_mul-v c = omega (arith, small (goal.at.overflow_mul-v c).In-loop-i)

pub overflow_add-v : goal.overflow_add-v
overflow_add-v c = omega (arith, small (goal.at.overflow_add-v c).In-loop-i, c.from-b.ensures, c.type_inv.s (c.loop-i.i - 1))

pub loop-i-preserved : goal.loop-i-preserved
loop-i-preserved c =
    let s = c.args.s.now in
    let i = c.loop-i.i in
    let e : i ≡ suc (i - 1) = omega arith in
    rw c.from-b.ensures (value-more s (i - 1) c.loop-i.v (omega arith) (c.loop-i.invariant ∙ ap (λ (k : ℕ). value_of 8 (drop k s)) e))
