-- With rows or without. Assumes nothing.
use mathlib.Core.Path.{ap, ◌∙◌, subst}
use native.Mathlib.Omega.{arith}
use Rattle.std.specs.Prelude.{Err}
use Rattle.std.proofs.lemmas.Result.{err_from_is_err_and}
use Rattle.units.specs.Refusal.{number_of}
use Rattle.units.proofs.RefusalLaws.{number_of-above}
use Rattle.text_debug.specs.DebugGroup.{without_rows, rows_read, DebugChecked}
use Rattle.text_scan.proofs.WalkLaws.{debug_walked, debug_no}
use Rattle.text_scan.proofs.parse_debug_group.Goals as goal

pub returns : goal.returns
returns c =
    let a = c.args in
    let g = c.in_ok-g.g in
    rw c.or.ensures
    (debug_walked a.t.now a.at a.w.source a.w.words g.next g.rows
    (subst (λ b. DebugChecked a.t.now a.at b (rows_read g.next g.rows)) c.is_some.ensures c.in_ok-g.ensures))

pub returns-in_err-g : goal.returns-in_err-g
returns-in_err-g c =
    let a = c.args in
    let w = err_from_is_err_and c.from_residual.result c.from_residual.ensures.1 in
    let n = number_of c.in_err-g.field-0.0 in
    rw (w.1 ∙ ap Err w.2)
    (debug_no a.t.now a.at _ _ _ a.w.words n
    (subst (λ b. DebugChecked a.t.now a.at b (without_rows n a.at)) c.is_some.ensures c.in_err-g.ensures)
    (λ z. omega (arith, z, number_of-above c.in_err-g.field-0.0)))
