use mathlib.Core.Path.{refl, sym, ◌∙◌}
use native.Mathlib.Omega.{arith}
use Rattle.std.proofs.lemmas.Result.{err_from_is_err_and}
use Rattle.units.specs.Refusal.{number_of}
use Rattle.units.proofs.RefusalLaws.{number_of-above}
use Rattle.binary_scan.proofs.ScanLaws.{scan_unknown, scan_short, scan_inside, scan_bad, scan_good, scan_end}
use Rattle.binary_scan.proofs.scan.Goals as goal

pub returns-then-k-gt-LAST_KIND : goal.returns-then-k-gt-LAST_KIND
returns-then-k-gt-LAST_KIND c =
    let l = c.loop-at in
    sym (scan_unknown c.args.s.now l.at c.loop-at-test.true c.if-k-gt-LAST_KIND.true) ∙ l.invariant

pub returns-in_default : goal.returns-in_default
returns-in_default c =
    let l = c.loop-at in
    sym (scan_short c.args.s.now l.at c.loop-at-test.true _ refl c.if-k-gt-LAST_KIND.false (sym c.in_default.ensures.places)) ∙ l.invariant

pub returns-in_err-check_body : goal.returns-in_err-check_body
returns-in_err-check_body c =
    let l = c.loop-at in
    let t = c.in-Some in
    let r = c.in_err-check_body in
    let p = err_from_is_err_and c.from_residual.result c.from_residual.ensures.1 in
    let n = number_of-above r.field-0.0 in
    rw (p.1, p.2)
    (scan_bad c.args.s.now l.at c.loop-at-test.true _ refl c.if-k-gt-LAST_KIND.false _ _ t.next.at (sym t.ensures.places) t.body.now t.ensures.body
    (number_of r.field-0.0) r.ensures (λ z. omega arith) ∙ l.invariant)

pub loop-at-smaller : goal.loop-at-smaller
loop-at-smaller c =
    let l = c.loop-at in
    let t = c.in-Some in
    let h = scan_inside c.args.s.now l.at c.loop-at-test.true _ refl c.if-k-gt-LAST_KIND.false _ _ t.next.at (sym t.ensures.places) t.body.now t.ensures.body in
    omega arith

pub loop-at-preserved : goal.loop-at-preserved
loop-at-preserved c =
    let l = c.loop-at in
    let t = c.in-Some in
    scan_good c.args.s.now l.at c.loop-at-test.true _ refl c.if-k-gt-LAST_KIND.false _ _ t.next.at (sym t.ensures.places) t.body.now t.ensures.body
    (sym c.in_ok-check_body.ensures) ∙ l.invariant

pub returns : goal.returns
returns c =
    let l = c.loop-at in
    sym (scan_end c.args.s.now l.at (omega arith)) ∙ l.invariant
