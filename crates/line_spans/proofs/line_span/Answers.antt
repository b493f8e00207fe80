use Rattle.std.proofs.lemmas.Result.{err_from_is_err_and}
use Rattle.source_info.proofs.SourceLaws.{line_refused, line-given, line-past}
use Rattle.line_spans.proofs.TrimLaws.{line-trimmed}
use Rattle.line_spans.proofs.line_span.Goals as goal

pub returns-in_err-source : goal.returns-in_err-source
returns-in_err-source c =
    let p = err_from_is_err_and c.from_residual.result c.from_residual.ensures.1 in
    rw (p.1, p.2) (line_refused _ _ c.in_err-source.ensures.0 _)

pub returns-in_err-a : goal.returns-in_err-a
returns-in_err-a c =
    let p = err_from_is_err_and c.from_residual-in_err-a.result c.from_residual-in_err-a.ensures.1 in
    rw (p.1, p.2) (line-past _ _ c.in_ok-source.ensures.0 _ c.in_err-a.ensures.0)

pub returns : goal.returns
returns c =
    let s = c.in_ok-source.source in
    line-given _ _ c.in_ok-source.ensures.0 _ (record { start = c.in_ok-a.a; end = c.in_ok-a.e })
    (record { start = c.white_start-start.result; end = c.white_end-end.result }) c.in_ok-a.ensures.0
    (line-trimmed c.args.object.now s.at s.len c.in_ok-a.a c.in_ok-a.e c.white_end-end.result c.white_start-start.result
    c.in_ok-a.ensures.1.0 c.in_ok-a.ensures.1.1 c.white_end-end.ensures c.white_start-start.ensures)
