use native.Mathlib.Omega.{arith}
use Rattle.std.proofs.lemmas.Result.{err_from_is_err_and}
use Rattle.units.proofs.RefusalLaws.{number_of-above}
use Rattle.text_read.proofs.FileLaws.{read-refused}
use Rattle.text_read.proofs.read_text.Goals as goal

pub returns-in_err-scanned : goal.returns-in_err-scanned
returns-in_err-scanned c =
    let w = err_from_is_err_and c.from_residual.result c.from_residual.ensures.1 in
    rw (w.1, w.2) (read-refused _ _ _ _ c.in_err-scanned.ensures (λ z. omega (arith, z, number_of-above c.in_err-scanned.field-0.0)))

pub read_scanned-requires : goal.read_scanned-requires
read_scanned-requires c = c.in_ok-scanned.ensures

pub returns : goal.returns
returns c = c.read_scanned.ensures
