-- The check, then the measuring. Assumes nothing.
use borrow.Author.Tests.{eq-eqb, ne_eqb}
use Rattle.std.proofs.Common.{arith}
use Rattle.std.proofs.lemmas.Result.{err_from_is_err_and}
use mathlib.Core.Path.{sym}
use Rattle.format.specs.Calls.{checked}
use Rattle.well_formed.proofs.NumberLaws.{number_some}
use Rattle.binary_measure.specs.Measured.{write_number}
use Rattle.binary_measure.proofs.check_write.Goals as goal

pub returns-in_err-check : goal.returns-in_err-check
unfolding write_number
returns-in_err-check c =
    let ws = c.args.object.now in
    let e = c.in_err-check.ensures in
    let h = number_some c.in_err-check.field-0.0 in
    let p = err_from_is_err_and c.from_residual.result c.from_residual.ensures.1 in
    rw (p.1, p.2) (rw (ne_eqb (checked ws) 0 (λ z. omega (arith, e, z))) e)

pub returns : goal.returns
unfolding write_number
returns c =
    let ws = c.args.object.now in
    rw (eq-eqb (checked ws) 0 (sym c.in_ok-check.ensures)) c.measure.ensures
