-- The number, or the length. Assumes nothing.
use mathlib.Core.Path.{refl, sym, ap, ◌∙◌}
use native.Mathlib.Omega.{arith}
use Rattle.std.proofs.lemmas.Result.{err_from_is_err_and}
use Rattle.format.specs.Calls.{measured}
use Rattle.units.specs.Refusal.{number_of}
use Rattle.units.proofs.RefusalLaws.{number_of-above}
use Rattle.binary_sizes.specs.ObjectWords.{object_words}
use Rattle.binary_read.proofs.AfterLaws.{answer_refused, answer_given}
use Rattle.binary_read.proofs.records_length.Goals as goal

pub returns-in_err-check_records : goal.returns-in_err-check_records
unfolding measured
returns-in_err-check_records c =
    let r = c.in_err-check_records.field-0.0 in
    let above = number_of-above r in
    let p = err_from_is_err_and c.from_residual.result c.from_residual.ensures.1 in
    rw (p.1, p.2)
    (ap measured (sym (c.in_err-check_records.ensures ∙ answer_refused (number_of r) (object_words c.args.s.now) (λ e. omega arith))))

pub returns : goal.returns
unfolding measured
returns c =
    let e = c.in_ok-check_records.ensures ∙ answer_given 0 (object_words c.args.s.now) refl in
    rw c.words_length.ensures (ap measured (sym e))
