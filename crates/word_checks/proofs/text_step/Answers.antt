use Rattle.std.proofs.Common.{◌≡◌, ◌/◌, ◌%◌, sym, ap, ◌∙◌, arith}
use Rattle.format.specs.Digits.{digits_of}
use Rattle.utf8.specs.Utf8.{step, run}
use Rattle.object.proofs.TextLaws.{run_1, run_2, run_3}
use Rattle.word_checks.proofs.text_step.Goals as goal

pub returns-then-n-eq1 : goal.returns-then-n-eq1
returns-then-n-eq1 c =
    let a = c.args in
    c.step-first.ensures ∙ sym (run_1 a.u a.w) ∙ ap (λ n. run a.u (digits_of 8 n a.w)) (sym c.if-n-eq1.true)

pub returns-then-n-eq2 : goal.returns-then-n-eq2
returns-then-n-eq2 c =
    let a = c.args in
    c.step-second.ensures ∙ ap (λ u. step u (a.w / 256 % 256)) c.step-first.ensures
    ∙ sym (run_2 a.u a.w) ∙ ap (λ n. run a.u (digits_of 8 n a.w)) (sym c.if-n-eq2.true)

pub returns : goal.returns
returns c =
    let a = c.args in
    let e : 3 ≡ a.n = omega arith in
    c.step.ensures ∙ ap (λ u. step u (a.w / 65536 % 256))
    (c.step-second.ensures ∙ ap (λ u. step u (a.w / 256 % 256)) c.step-first.ensures)
    ∙ sym (run_3 a.u a.w) ∙ ap (λ n. run a.u (digits_of 8 n a.w)) e
