-- The range is clipped, and what is White_Space at its start is passed over. Assumes nothing.
use Rattle.trim.proofs.SpanLaws.{start-trimmed}
use Rattle.trim.proofs.trim_start.Goals as goal

pub returns : goal.returns
returns c =
    let args = c.args in
    start-trimmed args.s.now args.start args.end c.clip-c.result c.clip-c.ensures
    c.white_start-n.result c.white_start-n.ensures.0 c.white_start-n.ensures.1
