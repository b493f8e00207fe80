-- Its bit is added. Assumes nothing.
use Rattle.std.proofs.Common.{◌/◌}
use Rattle.text_blocks.proofs.MarkLaws.{mark_fits, mark_made}
use Rattle.text_blocks.proofs.mark.Goals as goal

pub overflow_add-seen : goal.overflow_add-seen
overflow_add-seen c = record { fits = mark_fits c.args.seen.now c.args.a (c.slice_known-1.given (c.args.a / 8)).fits c.requires.1 }

pub returns : goal.returns
returns c = mark_made c.args.seen.now c.args.a
