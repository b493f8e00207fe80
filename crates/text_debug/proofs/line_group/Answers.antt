-- Question by question. Assumes nothing.
use Rattle.std.proofs.Common.{refl, ap, ◌∙◌, arith}
use Rattle.std.specs.Prelude.{Ok, Err}
use Rattle.std.proofs.lemmas.Result.{err_from_is_err_and}
use Rattle.units.proofs.RefusalLaws.{number_of-above}
use Rattle.text_debug.specs.LineTable.{table_view}
use Rattle.text_debug.proofs.DebugGroupLaws.{checked-lines, checked_unlined, checked-lined}
use Rattle.text_debug.proofs.line_group.Goals as goal

pub returns-in_err-lines : goal.returns-in_err-lines
returns-in_err-lines c =
    let w = err_from_is_err_and c.from_residual.result c.from_residual.ensures.1 in
    let r = c.in_err-lines.field-0.0 in
    rw (w.1 ∙ ap Err w.2)
    (checked-lines _ _ _ _ c.requires c.args.sourced (table_view (Err r)) c.in_err-lines.ensures (λ z. omega (arith, z, number_of-above r)))

pub returns-in_default : goal.returns-in_default
returns-in_default c =
    checked_unlined _ _ _ _ c.requires c.args.sourced (table_view (Ok c.in_ok-lines.lines)) c.in_ok-lines.ensures refl c.in_default.ensures

pub returns : goal.returns
returns c =
    checked-lined _ _ _ _ c.requires c.args.sourced (table_view (Ok c.in_ok-lines.lines)) c.in_ok-lines.ensures refl _ c.in-Some.ensures
