-- A letter, or a scalar value. Assumes nothing.
use Rattle.std.proofs.Common.{refl}
use Rattle.text_source.proofs.UnescapeLaws.{token_cut, token_byte, token_bad, token_none, token_scalar}
use Rattle.text_source.proofs.escape.Goals as goal

pub returns-in_err-e : goal.returns-in_err-e
returns-in_err-e c = rw c.from_residual.ensures (λ d q. token_cut c.args.t.now d c.args.c _ q refl c.in_err-e.ensures)

pub returns-in-Some : goal.returns-in-Some
returns-in-Some c =
    λ d q. token_byte _ d c.args.c _ q refl _ c.in_ok-e.d c.in_ok-e.ensures _ c.in-Some.ensures.0 c.in-Some.ensures.1

pub returns-then-e-ne117 : goal.returns-then-e-ne117
returns-then-e-ne117 c =
    λ d q. token_bad _ d c.args.c _ q refl _ c.in_ok-e.d c.in_ok-e.ensures c.in_default.ensures c.if-e-ne117.true

pub returns-in_err-v : goal.returns-in_err-v
returns-in_err-v c =
    rw c.from_residual-in_err-v.ensures
    (λ d q. token_none c.args.t.now d c.args.c _ q refl _ c.in_ok-e.d c.in_ok-e.ensures c.in_default.ensures c.if-e-ne117.false c.in_err-v.ensures)

pub returns : goal.returns
returns c =
    λ d q. token_scalar _ d c.args.c _ q refl _ c.in_ok-e.d c.in_ok-e.ensures c.in_ok-v.v c.in_ok-v.f c.in_default.ensures c.if-e-ne117.false
    c.in_ok-v.ensures
