-- Digit by digit. Assumes nothing.
use Rattle.std.proofs.Common.{sym, ◌∙◌, arith}
use Rattle.text_source.specs.Stream.{bytes_left}
use Rattle.text_source.proofs.UnescapeLaws.{digits_on, digits_small, esc_none, esc_no, esc_yes, uni_long}
use Rattle.text_source.proofs.escaped.Goals as goal

pub returns-in_err-b : goal.returns-in_err-b
returns-in_err-b c =
    rw c.from_residual.ensures
    (esc_none (bytes_left c.args.t.now c.args.c) (bytes_left c.args.t.now c.loop-b.cur) c.loop-b.n c.loop-b.v c.loop-b.invariant c.in_err-b.ensures)

pub returns-then-ends_escape : goal.returns-then-ends_escape
returns-then-ends_escape c =
    let l = c.loop-b in
    esc_yes _ (bytes_left c.args.t.now l.cur) l.n l.v l.invariant _ _ c.in_ok-b.ensures (rw c.digit-x.ensures.0 at c.if-x-ge16.true) (sym c.ends_escape.ensures ∙ c.if-ends_escape.true)

pub returns-then-x-ge16 : goal.returns-then-x-ge16
returns-then-x-ge16 c =
    let l = c.loop-b in
    esc_no _ (bytes_left c.args.t.now l.cur) l.n l.v l.invariant _ _ c.in_ok-b.ensures (rw c.digit-x.ensures.0 at c.if-x-ge16.true) (sym c.ends_escape.ensures ∙ c.if-ends_escape.false)

pub returns-then-n-eq6 : goal.returns-then-n-eq6
returns-then-n-eq6 c =
    let l = c.loop-b in
    uni_long _ (bytes_left c.args.t.now l.cur) l.n l.v l.invariant _ _ c.in_ok-b.ensures (rw c.digit-x.ensures.0 at c.if-x-ge16.false) c.if-n-eq6.true

pub overflow_mul-v : goal.overflow_mul-v
overflow_mul-v c = let l = c.loop-b in omega (arith, digits_small _ _ l.n l.v l.invariant c.if-n-eq6.false)

pub overflow_add-v : goal.overflow_add-v
overflow_add-v c = let l = c.loop-b in omega (arith, digits_small _ _ l.n l.v l.invariant c.if-n-eq6.false, c.if-x-ge16.false)

pub loop-b-preserved : goal.loop-b-preserved
loop-b-preserved c =
    let l = c.loop-b in
    digits_on _ (bytes_left c.args.t.now l.cur) l.n l.v _ _ _ l.invariant c.in_ok-b.ensures c.digit-x.ensures.0 c.if-x-ge16.false c.if-n-eq6.false
