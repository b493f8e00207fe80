use native.Mathlib.Omega.{arith}
use Rattle.std.proofs.lemmas.Result.{err_from_is_err_and}
use Rattle.units.proofs.RefusalLaws.{number_of-above}
use Rattle.text_read.proofs.FileLaws.{length-refused}
use Rattle.text_read.proofs.text_length.Goals as goal

pub returns-in_err-scanned : goal.returns-in_err-scanned
returns-in_err-scanned c =
    let w = err_from_is_err_and c.from_residual.result c.from_residual.ensures.1 in
    rw (w.1, w.2) (length-refused _ _ _ c.in_err-scanned.ensures (λ z. omega (arith, z, number_of-above c.in_err-scanned.field-0.0)))

pub length_scanned-requires : goal.length_scanned-requires
length_scanned-requires c = c.in_ok-scanned.ensures

pub returns : goal.returns
returns c = c.length_scanned.ensures
