use mathlib.Core.Path.{◌≡◌, sym, ap, ◌∙◌}
use Prim.Native.Nat.{ℕ, ◌+◌}
use Rattle.cursor.proofs.TakenLaws.{bytes_taken, bytes-not-there}
use Rattle.binary_scan.specs.Scan.{fixed_bytes}
use Rattle.binary_scan.proofs.ScanLaws.{take_short, take_whole}
use Rattle.binary_scan.proofs.take_record.Goals as goal

pub returns-in_err-body-clause-places : goal.returns-in_err-body-clause-places
returns-in_err-body-clause-places c =
    let a = c.args in
    let f = c.fixed_bytes in
    rw c.from_residual.ensures
    (take_short a.k a.s.now a.c.at f.result f.ensures (bytes-not-there f.result a.s.now a.c.at c.in_err-body.ensures.places))

pub returns-clause-places : goal.returns-clause-places
returns-clause-places c =
    let a = c.args in
    let f = c.fixed_bytes in
    let body = c.in_ok-body.body in
    let h = bytes_taken f.result a.s.now a.c.at _ _ body.at c.in_ok-body.ensures.places in
    c.take_bytes-2.ensures.places
    ∙ take_whole a.k a.s.now a.c.at f.result f.ensures c.body_bytes.result body.at h.0 c.body_bytes.ensures h.3

pub returns-clause-body : goal.returns-clause-body
returns-clause-body c =
    let a = c.args in
    let f = c.fixed_bytes in
    let body = c.in_ok-body.body in
    let h = bytes_taken f.result a.s.now a.c.at _ _ body.at c.in_ok-body.ensures.places in
    let e : body.at ≡ a.c.at + fixed_bytes a.k = h.3 ∙ ap (λ (n : ℕ). a.c.at + n) f.ensures in
    rw (sym e, sym c.body_bytes.ensures) c.take_bytes-2.ensures.bytes
