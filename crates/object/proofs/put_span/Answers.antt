-- Nothing, no room, or all of it. Assumes nothing.
use native.Mathlib.Omega.{arith}
use mathlib.Core.Path.{refl, sym, subst}
use mathlib.Core.List.{[]}
use Rattle.writing.specs.Written.{Put}
use Rattle.writing.proofs.WriteLaws.{too_short, stored}
use Rattle.object.proofs.ByteLaws.{bytes-end}
use Rattle.object.proofs.SpanLaws.{span-length}
use Rattle.object.proofs.put_span.Goals as goal

pub returns-then-end-start : goal.returns-then-end-start
returns-then-end-start c =
    let a = c.args in
    let s = a.out.now in
    subst (λ part. Put part s 0 s) (sym (bytes-end a.ws.now a.at a.start a.end c.if-end-start.true))
    (stored [] s 0 refl (omega arith))

pub returns-then-out-end : goal.returns-then-out-end
returns-then-out-end c = too_short _ _ _ (span-length _ _ _ _) c.if-out-end.true
