-- What the byte shows, or what stands there of whatever bytes. Assumes nothing.
use Rattle.trim.proofs.TrimLaws.{white_shown}
use Rattle.trim.proofs.white_at.Goals as goal

pub returns-in-Some : goal.returns-in-Some
returns-in-Some c = white_shown c.args.s.now c.args.at _ c.if-at-s.true c.in-Some.ensures.0 c.in-Some.ensures.1
