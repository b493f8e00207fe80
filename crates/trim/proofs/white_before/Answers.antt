-- What the last byte shows, or what ends there of whatever bytes. Assumes nothing.
use Rattle.trim.proofs.TrimLaws.{white_shown_before}
use Rattle.trim.proofs.white_before.Goals as goal

pub returns-in-Some : goal.returns-in-Some
returns-in-Some c =
    white_shown_before c.args.s.now c.args.end _ c.if-end-gt0.true c.if-end-s.true c.in-Some.ensures.0 c.in-Some.ensures.1
