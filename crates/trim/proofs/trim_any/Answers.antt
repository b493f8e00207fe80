-- Both ends, one after the other. Assumes nothing.
use Rattle.trim.proofs.SpanLaws.{both_trimmed}
use Rattle.trim.proofs.trim_any.Goals as goal

pub returns : goal.returns
returns c =
    let args = c.args in
    both_trimmed args.s.now args.start args.end c.trim_start-c.result c.trim_end.result
    c.trim_start-c.ensures.0 c.trim_start-c.ensures.1 c.trim_end.ensures.0 c.trim_end.ensures.1
