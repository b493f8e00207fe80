-- Token by token: the same answer from here. Assumes nothing.
use Rattle.std.proofs.Common.{◌≡◌, sym, refl, ap, ◌∙◌, subst, arith}
use Rattle.std.specs.Prelude.{Ok, Err}
use Rattle.std.proofs.lemmas.Result.{err_from_is_err_and}
use Rattle.units.specs.Refusal.{measured_of}
use Rattle.text_source.specs.Unescape.{NextToken, TokenIs}
use Rattle.text_source.proofs.UnescapeLaws.{token_length, counted-token, counted-bad, counted-end, counted-all}
use Rattle.text_source.proofs.unescape.Goals as goal
use Rattle.text_source.proofs.unescape.Goals.{In-Some, in-Plain, in-Scalar, in-Stretch}

token : (c : In-Some) → TokenIs c.args.t.now c.loop-token.cur c.in-Some.token c.in-Some.next
token c = subst (λ o. NextToken c.args.t.now c.loop-token.cur (Ok o)) c.in-Some.is c.in_ok-token.ensures

pub loop-token-preserved : goal.loop-token-preserved
loop-token-preserved c =
    let l = c.loop-token in
    let len : c.match-token.len ≡ token_length c.in-Some.token = elim c.match-token.branch [
      | in-Plain w ↦ w.len-is ∙ sym (ap token_length w.in-Plain.is)
      | in-Scalar w ↦ w.len-is ∙ w.scalar_length-len.ensures ∙ sym (ap token_length w.in-Scalar.is)
      | in-Stretch w ↦ w.len-is ∙ sym (ap token_length w.in-Stretch.is)
    ] in (
      omega arith,
      counted-token c.args.t.now l.cur _ _ (token (goal.at.loop-token-preserved c).In-Some) l.n _ _ len refl ∙ l.invariant.1,
    )

pub returns-in_err-token : goal.returns-in_err-token
returns-in_err-token c =
    let l = c.loop-token in
    let w = err_from_is_err_and c.from_residual.result c.from_residual.ensures.1 in
    let e = c.in_err-token.ensures in
    rw (w.1 ∙ ap Err w.2)
    (counted-all _ (measured_of (Err c.in_err-token.field-0.0)) (rw e.0 (counted-bad c.args.t.now l.cur l.n e.1 ∙ l.invariant.1)))

pub returns : goal.returns
returns c =
    let l = c.loop-token in
    let e = subst (λ o. NextToken c.args.t.now l.cur (Ok o)) c.in_default.is c.in_ok-token.ensures in
    counted-all _ (measured_of (Ok l.n)) (counted-end c.args.t.now l.cur l.n l.invariant.0 e ∙ l.invariant.1)
