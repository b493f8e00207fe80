use mathlib.Core.Path.{◌≡◌, sym, ap, ◌∙◌}
use Rattle.std.specs.Prelude as std
use Rattle.std.specs.Prelude.{Some, None}
use Rattle.std.specs.Option.{ok_or}
use Rattle.units.specs.declared.Address.{Address}
use Rattle.units.specs.declared.refusal.Refusal.TheVariants as refusal
use Rattle.line_tables.specs.Tables.{address_answer, address_found, address_by}
use Rattle.std.proofs.lemmas.Result.{err_from_is_err_and}
use Rattle.line_tables.proofs.TableLaws.{answered, answered_none, answered_some, block_some, source-object, get_refused, get_is}
use Rattle.line_tables.proofs.get.Goals as goal

pub returns-in_err-source_of : goal.returns-in_err-source_of
returns-in_err-source_of c =
    let p = err_from_is_err_and c.from_residual.result c.from_residual.ensures.1 in
    rw (p.1, p.2) (get_refused _ _ c.in_err-source_of.ensures.0 _)

answered_or : (r : std.Option Address) → address_answer (ok_or r refusal.NotMapped) ≡ answered (address_found r)
answered_or (Some a) = answered_some a.0
answered_or None = answered_none

pub returns-in_default : goal.returns-in_default
returns-in_default c =
    let ws = c.args.object.now in
    let o = source-object ws _ c.in_ok-source_of.ensures.0 in
    answered_none ∙ ap (λ b. answered (address_by b c.args.line.0)) (c.in_default.ensures.0 o.both.0 o.is) ∙ get_is ws o c.args.line.0

pub returns : goal.returns
returns c =
    let ws = c.args.object.now in
    let line = c.args.line.0 in
    let o = source-object ws _ c.in_ok-source_of.ensures.0 in
    let l = c.in-Some.ensures in
    ap address_answer c.ok_or.ensures.value ∙ answered_or c.address_in.result ∙ ap answered c.address_in.ensures
    ∙ ap (λ b. answered (address_by b line)) (sym (block_some ws c.in-Some.at l.1.0) ∙ l.0 o.both.0 o.is) ∙ get_is ws o line
