use native.Mathlib.Omega.{arith}
use mathlib.Core.Path.{refl}
use Prim.Native.Nat.{◌+◌}
use Rattle.measuring.proofs.RoomLaws.{fits-then, short-then}
use Rattle.label_tables.proofs.take_three.Goals as goal

pub returns-in_err-x : goal.returns-in_err-x
returns-in_err-x c =
    let a = c.args in rw c.from_residual.ensures (short-then a.room a.a (a.b + a.c) (omega arith) c.in_err-x.ensures)

pub returns-in_err-y : goal.returns-in_err-y
returns-in_err-y c =
    let a = c.args in
    rw c.from_residual-in_err-y.ensures
    (fits-then a.room a.a (a.b + a.c) (omega arith) c.in_ok-x.ensures (short-then c.in_ok-x.x a.b a.c refl c.in_err-y.ensures))

pub returns : goal.returns
returns c =
    let a = c.args in
    fits-then a.room a.a (a.b + a.c) (omega arith) c.in_ok-x.ensures
    (fits-then c.in_ok-x.x a.b a.c refl c.in_ok-y.ensures c.take-3.ensures)
