use mathlib.Core.Path.{refl}
use native.Mathlib.Omega.{arith}
use borrow.Author.Tests.{ne_eqb}
use Rattle.binary_scan.specs.Scan.{fixed_bytes}
use Rattle.binary_scan.proofs.fixed_bytes.Goals as goal

pub returns-in-0 : goal.returns-in-0
unfolding fixed_bytes
returns-in-0 c = rw c.in-0.is refl

pub returns-in-1 : goal.returns-in-1
unfolding fixed_bytes
returns-in-1 c = rw c.in-1.is refl

pub returns-in-3 : goal.returns-in-3
unfolding fixed_bytes
returns-in-3 c = rw c.in-3.is refl

pub returns-in_default : goal.returns-in_default
unfolding fixed_bytes
returns-in_default c =
    let k = c.args.k in
    rw (ne_eqb k 0 (λ e. omega arith), ne_eqb k 1 (λ e. omega arith), ne_eqb k 3 (λ e. omega arith)) refl
