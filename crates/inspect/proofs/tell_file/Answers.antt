use Rattle.std.specs.Prelude.{Ok}
use Rattle.format.specs.Calls.{read_binary, read_text}
use Rattle.units.specs.Refusal.{filled_of}
use Rattle.printing.proofs.PrintLaws.{fill-counts}
use Rattle.inspect.proofs.tell_file.Goals as goal

pub slice_bounds-words-end : goal.slice_bounds-words-end
slice_bounds-words-end c =
    (fill-counts (read_binary c.args.file.now) _ (filled_of (Ok c.in-Ok.n) c.read_binary-b.new.out) c.in-Ok.ensures).0

pub slice_bounds-tell_object-end : goal.slice_bounds-tell_object-end
slice_bounds-tell_object-end c =
    (fill-counts (read_binary c.args.file.now) _ (filled_of (Ok c.in-Ok.n) c.read_binary-b.new.out) c.in-Ok.ensures).1

pub slice_bounds-others-end : goal.slice_bounds-others-end
slice_bounds-others-end c =
    (fill-counts (read_text c.args.file.now) _ (filled_of (Ok c.in-Ok-t.n) c.read_text-t.new.out) c.in-Ok-t.ensures).0

pub slice_bounds-tell_object-end-in-Ok-t : goal.slice_bounds-tell_object-end-in-Ok-t
slice_bounds-tell_object-end-in-Ok-t c =
    (fill-counts (read_text c.args.file.now) _ (filled_of (Ok c.in-Ok-t.n) c.read_text-t.new.out) c.in-Ok-t.ensures).1
