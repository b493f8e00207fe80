use mathlib.Core.Path.{refl}
use native.Mathlib.Omega.{arith}
use borrow.Author.Tests.{ne_eqb}
use Rattle.binary_scan.specs.Scan.{body_bytes}
use Rattle.binary_scan.proofs.ScanLaws.{number-drop}
use Rattle.binary_scan.proofs.body_bytes.Goals as goal

pub returns-in-0 : goal.returns-in-0
unfolding body_bytes
returns-in-0 c = rw (c.in-0.is, number-drop c.args.s.now c.args.at 2 2, c.from.ensures, c.u16_at.ensures) refl

pub returns-in-1 : goal.returns-in-1
unfolding body_bytes
returns-in-1 c = rw (c.in-1.is, number-drop c.args.s.now c.args.at 11 8, c.u64_at.ensures) refl

pub returns-in-2 : goal.returns-in-2
unfolding body_bytes
returns-in-2 c = rw (c.in-2.is, number-drop c.args.s.now c.args.at 8 2, c.from-in-2.ensures, c.u16_at-in-2.ensures) refl

pub returns-in-3 : goal.returns-in-3
unfolding body_bytes
returns-in-3 c = rw (c.in-3.is, number-drop c.args.s.now c.args.at 0 8, c.u64_at-in-3.ensures) refl

pub returns-in_default : goal.returns-in_default
unfolding body_bytes
returns-in_default c =
    let k = c.args.k in
    rw (
      ne_eqb k 0 (λ e. omega arith),
      ne_eqb k 1 (λ e. omega arith),
      ne_eqb k 2 (λ e. omega arith),
      ne_eqb k 3 (λ e. omega arith),
      number-drop c.args.s.now c.args.at 2 8,
      c.u64_at-in_default.ensures,
    )
    refl
