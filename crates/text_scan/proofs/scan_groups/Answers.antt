-- Question by question. Assumes nothing.
use native.Mathlib.Omega.{arith}
use mathlib.Core.Path.{refl, sym, ap, ◌∙◌}
use Rattle.std.specs.Prelude.{Ok, Err}
use Rattle.std.proofs.lemmas.Result.{err_from_is_err_and}
use Rattle.units.proofs.RefusalLaws.{number_of-above}
use Rattle.text_scan.specs.Walk.{walk_view}
use Rattle.text_scan.proofs.ScanLaws.{marks_begin, scan_groups, scan_fallen, scan_read, scans_no}
use Rattle.text_scan.proofs.scan_groups.Goals as goal

pub parse_groups-requires : goal.parse_groups-requires
parse_groups-requires c = marks_begin 8192

pub returns-in_err-w : goal.returns-in_err-w
returns-in_err-w c =
    let a = c.args in
    let w = err_from_is_err_and c.from_residual.result c.from_residual.ensures.1 in
    let r = c.in_err-w.field-0.0 in
    rw (w.1 ∙ ap Err w.2)
    (scans_no a.t.now _ _ _
    (scan_groups a.t.now a.first (walk_view a.first 0 (Err r)) c.in_err-w.ensures (λ z. omega (arith, z, number_of-above r))) (number_of-above r) refl)

pub returns-then-not-lines_rise : goal.returns-then-not-lines_rise
returns-then-not-lines_rise c =
    let a = c.args in
    scans_no _ _ 31 _
    (scan_fallen _ _ (walk_view a.first 0 (Ok c.in_ok-w.w)) c.in_ok-w.ensures refl (sym c.lines_rise.ensures ∙ c.if-not-lines_rise.true))
    (omega arith) refl

pub returns : goal.returns
returns c =
    let a = c.args in
    scan_read _ _ (walk_view a.first 0 (Ok c.in_ok-w.w)) c.in_ok-w.ensures refl c.requires (sym c.lines_rise.ensures ∙ c.if-not-lines_rise.false)
