use Rattle.std.proofs.lemmas.Result.{err_from_is_err_and}
use Rattle.source_info.proofs.SourceLaws.{raw_refused, raw_given, raw_past}
use Rattle.line_spans.proofs.raw_line_span.Goals as goal

pub returns-in_err-source : goal.returns-in_err-source
returns-in_err-source c =
    let p = err_from_is_err_and c.from_residual.result c.from_residual.ensures.1 in
    rw (p.1, p.2) (raw_refused _ _ c.in_err-source.ensures.0 _)

pub returns-in_err-a : goal.returns-in_err-a
returns-in_err-a c =
    let p = err_from_is_err_and c.from_residual-in_err-a.result c.from_residual-in_err-a.ensures.1 in
    rw (p.1, p.2) (raw_past _ _ c.in_ok-source.ensures.0 _ c.in_err-a.ensures.0)

pub returns : goal.returns
returns c = raw_given _ _ c.in_ok-source.ensures.0 _ _ _ c.in_ok-a.ensures.0
