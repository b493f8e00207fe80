-- By what the check and the measuring hand back. Assumes nothing.
use mathlib.Core.Path.{sym}
use Rattle.std.proofs.lemmas.Result.{err_from_is_err_and}
use Rattle.measuring.proofs.RoomLaws.{roomy, roomless}
use Rattle.text_write.proofs.FileLaws.{file_refused, file_short, file_given}
use Rattle.text_write.proofs.write_text.Goals as goal

pub returns-in_err-check : goal.returns-in_err-check
returns-in_err-check c =
    let p = err_from_is_err_and c.from_residual.result c.from_residual.ensures.1 in
    rw (p.1, p.2) (file_refused c.args.object.now c.args.out.now c.in_err-check.field-0.0 c.in_err-check.ensures)

pub plan_of-plan-requires : goal.plan_of-plan-requires
plan_of-plan-requires c = sym c.in_ok-check.ensures

pub measure_file-requires : goal.measure_file-requires
measure_file-requires c = (sym c.in_ok-check.ensures, c.plan_of-plan.ensures)

pub returns-then-is_none : goal.returns-then-is_none
returns-then-is_none c =
    file_short c.args.object.now c.args.out.now (sym c.in_ok-check.ensures) (roomless _ _ _ c.measure_file.ensures c.if-is_none.ensures)

pub put_file-requires : goal.put_file-requires
put_file-requires c =
    (sym c.in_ok-check.ensures, roomy _ _ _ c.measure_file.ensures c.if-is_none.ensures, c.plan_of-plan.ensures)

pub returns : goal.returns
returns c =
    file_given c.args.object.now c.args.out.now (sym c.in_ok-check.ensures) (roomy _ _ _ c.measure_file.ensures c.if-is_none.ensures)
    c.put_file.result _ c.put_file.ensures
