use mathlib.Core.Path.{refl, sym, ◌∙◌}
use native.Mathlib.Omega.{arith}
use borrow.Author.Tests.{ne_eqb}
use Rattle.binary_scan.specs.Scan.{body_number}
use Rattle.binary_scan.proofs.check_body.Goals as goal

pub returns-in-0 : goal.returns-in-0
unfolding body_number
returns-in-0 c = rw c.in-0.is refl

pub returns-then-rises : goal.returns-then-rises
unfolding body_number
returns-then-rises c = rw (c.in-2.is, sym c.rises.ensures ∙ c.if-rises.true) refl

pub returns-else-rises : goal.returns-else-rises
unfolding body_number
returns-else-rises c = rw (c.in-2.is, sym c.rises.ensures ∙ c.if-rises.false) refl

pub returns-then-is_utf8 : goal.returns-then-is_utf8
unfolding body_number
returns-then-is_utf8 c =
    let k = c.args.k in
    rw (ne_eqb k 0 (λ e. omega arith), ne_eqb k 2 (λ e. omega arith), sym c.is_utf8.ensures ∙ c.if-is_utf8.true) refl

pub returns-else-is_utf8 : goal.returns-else-is_utf8
unfolding body_number
returns-else-is_utf8 c =
    let k = c.args.k in
    rw (ne_eqb k 0 (λ e. omega arith), ne_eqb k 2 (λ e. omega arith), sym c.is_utf8.ensures ∙ c.if-is_utf8.false) refl
