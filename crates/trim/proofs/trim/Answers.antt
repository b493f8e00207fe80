-- What the bytes show, or what stands there of whatever bytes. Assumes nothing.
use native.Mathlib.Omega.{arith}
use mathlib.Core.Path.{sym, ◌∙◌}
use Rattle.trim.proofs.SpanLaws.{range_shown, spaces_gone}
use Rattle.trim.proofs.trim.Goals as goal

pub returns-in-Some-eq0-shown_white : goal.returns-in-Some-eq0-shown_white
returns-in-Some-eq0-shown_white c =
    let args = c.args in
    let a = c.spaces_end-a in
    range_shown args.s.now args.start args.end a.result a.ensures.0
    c.if-a-end.true c.if-s-end.false (spaces_gone args.s.now args.start args.end a.result a.ensures.0 (omega arith) c.if-s-end.false a.ensures.2)
    (sym c.in-Some-eq0.field-0-test ∙ c.in-Some-eq0.ensures.0) (sym c.in-Some-eq0-shown_white.field-0-test ∙ c.in-Some-eq0-shown_white.ensures.0)
