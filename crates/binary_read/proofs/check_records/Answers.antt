-- By the answers to the questions. Assumes nothing.
use mathlib.Core.Path.{refl, sym, ◌∙◌}
use native.Mathlib.Omega.{arith}
use Rattle.std.proofs.lemmas.Result.{err_from_is_err_and}
use Rattle.units.specs.Refusal.{number_of}
use Rattle.units.proofs.RefusalLaws.{number_of-above}
use Rattle.binary_sizes.specs.ObjectWords.{object_words}
use Rattle.binary_read.proofs.AfterLaws.{after-refused, after-apart, after-given, answer_refused, answer_given}
use Rattle.binary_read.proofs.check_records.Goals as goal

pub returns-in_err-scan : goal.returns-in_err-scan
returns-in_err-scan c =
    let s = c.args.s.now in
    let r = c.in_err-scan.field-0.0 in
    let above = number_of-above r in
    let p = err_from_is_err_and c.from_residual.result c.from_residual.ensures.1 in
    rw (p.1, p.2)
    (after-refused s (number_of r) c.in_err-scan.ensures (λ e. omega arith) ∙ sym (answer_refused (number_of r) (object_words s) (λ e. omega arith)))

pub returns-then-not-lines_apart : goal.returns-then-not-lines_apart
returns-then-not-lines_apart c =
    let s = c.args.s.now in
    let apart = sym c.lines_apart.ensures ∙ c.if-not-lines_apart.true in
    after-apart s 0 c.in_ok-scan.ensures refl apart ∙ sym (answer_refused 15 (object_words s) (λ e. omega arith))

pub returns : goal.returns
returns c =
    let s = c.args.s.now in
    let apart = sym c.lines_apart.ensures ∙ c.if-not-lines_apart.false in
    after-given s 0 c.in_ok-scan.ensures refl apart ∙ sym (answer_given 0 (object_words s) refl)
