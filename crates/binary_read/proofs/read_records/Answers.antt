-- The number, then the words. Assumes nothing.
use mathlib.Core.Path.{refl, sym, ap, ◌∙◌}
use mathlib.Core.List.{List}
use Prim.Native.Nat.{ℕ}
use native.Mathlib.Omega.{arith}
use Rattle.std.proofs.lemmas.Result.{err_from_is_err_and}
use Rattle.format.specs.Basics.{Outcome}
use Rattle.format.specs.Calls.{fill}
use Rattle.units.specs.Refusal.{number_of}
use Rattle.units.proofs.RefusalLaws.{err-refused, number_of-above}
use Rattle.binary_sizes.specs.ObjectWords.{object_words}
use Rattle.binary_read.proofs.AfterLaws.{answer_refused, answer_given}
use Rattle.binary_read.proofs.read_records.Goals as goal

pub returns-in_err-check_records : goal.returns-in_err-check_records
returns-in_err-check_records c =
    let a = c.args in
    let r = c.in_err-check_records.field-0.0 in
    let above = number_of-above r in
    let p = err_from_is_err_and c.from_residual.result c.from_residual.ensures.1 in
    rw (p.1, p.2)
    (err-refused r a.out.now
    ∙ ap (λ (o : Outcome (List ℕ)). fill o a.out.now)
    (sym (c.in_err-check_records.ensures ∙ answer_refused (number_of r) (object_words a.s.now) (λ e. omega arith))))

pub returns : goal.returns
returns c =
    let a = c.args in
    c.put_words.ensures
    ∙ ap (λ (o : Outcome (List ℕ)). fill o a.out.now) (sym (c.in_ok-check_records.ensures ∙ answer_given 0 (object_words a.s.now) refl))
