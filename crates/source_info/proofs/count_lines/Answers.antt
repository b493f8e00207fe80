use Rattle.std.proofs.Common.{arith}
use Rattle.std.proofs.lemmas.Result.{err_from_is_err_and}
use Rattle.source_info.proofs.SourceLaws.{count-refused, count-given}
use Rattle.source_info.proofs.count_lines.Goals as goal

pub returns-in_err-source : goal.returns-in_err-source
returns-in_err-source c =
    let p = err_from_is_err_and c.from_residual.result c.from_residual.ensures.1 in
    rw (p.1, p.2) (count-refused _ _ c.in_err-source.ensures.0)

pub returns : goal.returns
returns c = count-given _ _ c.in_ok-source.ensures.0 _ c.count_newlines.ensures.0

pub overflow_add-result : goal.overflow_add-result
overflow_add-result c = omega (arith, c.count_newlines.ensures.1, c.in_ok-source.ensures.1)
