use Rattle.std.proofs.Common.{ℕ, List, ◌≡◌, length, sym, ap, ◌∙◌, arith}
use Rattle.std.proofs.lemmas.Result.{err_from_is_err_and}
use Rattle.object.specs.Bodies.{text_at}
use Rattle.object.specs.Texts.{text_len, text_bytes}
use Rattle.object.proofs.Formed.{Formed, formed}
use Rattle.object.proofs.ByteLaws.{text-len, text-bytes, text-within}
use Rattle.format.specs.Calls.{checked}
use Rattle.units.specs.Refusal.{number_of}
use Rattle.well_formed.proofs.NumberLaws.{number_some}
use Rattle.source_info.proofs.SourceLaws.{source-number, source-none, source_some}
use Rattle.source_info.proofs.source_of.Goals as goal

whole : (o : List ℕ) → 0 ≡ checked o → Formed o
whole o e = formed o (sym e)

pub returns-in_err-check : goal.returns-in_err-check
returns-in_err-check c =
    let r = c.in_err-check.field-0.0 in
    let p = err_from_is_err_and c.from_residual.result c.from_residual.ensures.1 in
    rw (p.1, p.2) (source-number _ (number_of r) c.in_err-check.ensures (λ z. let h = number_some r in omega arith), tt)

pub returns-in_default : goal.returns-in_default
returns-in_default c =
    let ws = c.args.object.now in
    let h = whole ws c.in_ok-check.ensures in
    (source-none ws h.object h.is (c.in_default.ensures h.object h.is), tt)

pub returns : goal.returns
returns c =
    let ws = c.args.object.now in
    let p = c.in-Some.at in
    let h = whole ws c.in_ok-check.ensures in
    let n = c.text_len.result in
    let f = c.in-Some.ensures h.object h.is in
    let size : n ≡ length (text_at ws p) = c.text_len.ensures ∙ ap (text_len ws p) c.body_end-end.ensures ∙ text-len ws p f.1 in (
      source_some ws h.object (text_at ws p) (text_bytes ws p n) h.is f.0 (ap (text_bytes ws p) size ∙ text-bytes ws p f.1),
      omega (arith, size, text-within ws p f.1),
    )
