-- Token by token. Assumes nothing.
use mathlib.Core.Path.{subst}
use Rattle.text_source.specs.declared.Token.{Token}
use Rattle.text_source.specs.Unescape.{TokenIs}
use Rattle.text_read.proofs.TextLaws.{draining_begin, draining_on, draining_scalar, draining_end, drains_bad}
use Rattle.text_read.proofs.put_source_text.Goals as goal
use Rattle.text_read.proofs.put_source_text.Goals.{In-Ok-Some}

token : (c : In-Ok-Some) → TokenIs c.args.t.now c.loop-token.cur c.in-Ok-Some.token c.in-Ok-Some.next
token c = rw c.in-Ok-Some.field-0-is at c.in-Ok-Some.ensures

pub loop-token-init : goal.loop-token-init
loop-token-init c = draining_begin _ _ _ c.requires.0 c.requires.1

pub loop-token-preserved-in-Plain : goal.loop-token-preserved-in-Plain
loop-token-preserved-in-Plain c =
    let k = subst (λ (x : Token). TokenIs c.args.t.now c.loop-token.cur x c.in-Ok-Some.next) c.in-Plain.is (token (goal.at.loop-token-preserved-in-Plain c).In-Ok-Some) in
    draining_on _ _ _ _ _ _ c.loop-token.invariant _ _ k _ _ c.push-h.ensures

pub loop-token-preserved-in-Scalar : goal.loop-token-preserved-in-Scalar
loop-token-preserved-in-Scalar c =
    let k = subst (λ (x : Token). TokenIs c.args.t.now c.loop-token.cur x c.in-Ok-Some.next) c.in-Scalar.is (token (goal.at.loop-token-preserved-in-Scalar c).In-Ok-Some) in
    draining_scalar _ _ _ _ _ _ c.loop-token.invariant _ k.1 _ k.0 _ _ c.push_scalar-h.ensures

pub loop-token-preserved : goal.loop-token-preserved
loop-token-preserved c =
    let k = subst (λ (x : Token). TokenIs c.args.t.now c.loop-token.cur x c.in-Ok-Some.next) c.in-Stretch.is (token (goal.at.loop-token-preserved c).In-Ok-Some) in
    draining_on _ _ _ _ _ _ c.loop-token.invariant _ _ k.2 _ _ c.push_bytes-h.ensures

pub returns-in-Ok-None : goal.returns-in-Ok-None
returns-in-Ok-None c =
    draining_end _ _ _ _ _ _ c.loop-token.invariant (rw c.in-Ok-None.field-0-is at c.in-Ok-None.ensures) _ _ c.flush.ensures

pub returns-in-Err : goal.returns-in-Err
returns-in-Err c = absurd (drains_bad _ _ _ c.loop-token.invariant.drains c.in-Err.ensures.1)
