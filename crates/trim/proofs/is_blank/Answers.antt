-- Nothing is left of it. Assumes nothing.
use Rattle.trim.proofs.SpanLaws.{blank_range}
use Rattle.trim.proofs.is_blank.Goals as goal

pub returns : goal.returns
returns c =
    let args = c.args in
    blank_range args.s.now args.start args.end c.trim_start-c.result.start c.trim_start-c.result.end
    c.trim_start-c.ensures.1
