use mathlib.Core.Path.{◌∙◌}
use Rattle.std.proofs.lemmas.Result.{err_from_is_err_and}
use Rattle.line_tables.proofs.TableLaws.{source-object, find_refused, find_is}
use Rattle.line_tables.proofs.find.Goals as goal

pub returns-in_err-source_of : goal.returns-in_err-source_of
returns-in_err-source_of c =
    let p = err_from_is_err_and c.from_residual.result c.from_residual.ensures.1 in
    rw (p.1, p.2) (find_refused _ _ c.in_err-source_of.ensures.0 _)

pub returns : goal.returns
returns c =
    let ws = c.args.object.now in
    let o = source-object ws _ c.in_ok-source_of.ensures.0 in
    c.find_in.ensures o.both.0 o.is ∙ find_is ws o c.args.address.0
