use Rattle.std.proofs.lemmas.Result.{err_from_is_err_and}
use Rattle.positions.specs.Pairs.{pair_in}
use Rattle.source_info.proofs.SourceLaws.{pair_refused, pair_given}
use Rattle.positions.proofs.get_pos_pair.Goals as goal

pub returns-in_err-source : goal.returns-in_err-source
returns-in_err-source c =
    let p = err_from_is_err_and c.from_residual.result c.from_residual.ensures.1 in
    rw (p.1, p.2) (pair_refused _ _ c.in_err-source.ensures.0 _)

pub returns : goal.returns
returns c = pair_given _ _ c.in_ok-source.ensures.0 _ (pair_in c.pair_at-p.result) c.pair_at-p.ensures
