-- Three stores. Assumes nothing.
use native.Mathlib.Omega.{arith}
use mathlib.Core.Path.{refl}
use mathlib.Core.List.{List, ◌∷◌}
use Prim.Native.Nat.{ℕ}
use lib.ListN.{length-set}
use Rattle.format.specs.Digits.{digits_of}
use Rattle.writing.proofs.WriteLaws.{too_short, stored}
use Rattle.binary_write.proofs.put_address.Goals as goal
use Rattle.binary_write.proofs.put_address.Goals.{Start}

abbrev whole : Start → List ℕ
whole s = s.args.kind ∷ digits_of 8 2 s.args.address

pub returns-then-out-lt3 : goal.returns-then-out-lt3
unfolding digits_of
returns-then-out-lt3 c = too_short (whole (goal.at.returns-then-out-lt3 c).Start) _ 3 refl c.if-out-lt3.true

pub returns : goal.returns
unfolding digits_of
returns c = stored (whole (goal.at.returns c).Start) _ 3 refl c.if-out-lt3.false

pub bounds-out-1 : goal.bounds-out-1
bounds-out-1 c = simp length-set (omega arith)

pub bounds-out-2 : goal.bounds-out-2
bounds-out-2 c = simp length-set (omega arith)

pub shape_of-out : goal.shape_of-out
shape_of-out c = simp length-set
