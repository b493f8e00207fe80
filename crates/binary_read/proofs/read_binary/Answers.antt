use mathlib.Core.Path.{sym, ap, ◌∙◌}
use Rattle.format.specs.Calls.{fill}
use Rattle.units.specs.declared.refusal.Refusal.TheVariants as refusal
use Rattle.units.proofs.RefusalLaws.{err-refused}
use Rattle.binary_read.proofs.ReadLaws.{read_10, read-on}
use Rattle.binary_read.proofs.read_binary.Goals as goal

pub returns-then-not-has_header : goal.returns-then-not-has_header
returns-then-not-has_header c =
    let a = c.args in
    let out = a.out.now in
    err-refused refusal.NoHeader out ∙ sym (ap (λ o. fill o out) (read_10 a.s.now (sym c.has_header.ensures ∙ c.if-not-has_header.true)))

pub returns : goal.returns
returns c =
    let a = c.args in
    let e = sym c.has_header.ensures ∙ c.if-not-has_header.false in
    c.read_records.ensures ∙ sym (ap (λ o. fill o a.out.now) (read-on a.s.now e))
