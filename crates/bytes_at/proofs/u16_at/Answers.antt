use Prim.Native.Nat.{◌+◌}
use native.Mathlib.Omega.{arith}
use Rattle.bytes_at.proofs.PlaceLaws.{count_below_lem}
use Rattle.bytes_at.proofs.u16_at.Goals as goal

pub overflow_cast-result : goal.overflow_cast-result
overflow_cast-result c =
    let a = c.args in
    omega (arith, c.clipped_value.ensures, count_below_lem a.s.now (a.p + a.k) (λ k. (c.type_inv.s k).fits))
