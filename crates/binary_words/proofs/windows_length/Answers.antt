use mathlib.Core.Path.{◌∙◌}
use native.Mathlib.Omega.{arith}
use Rattle.sorting.specs.Left.{left}
use Rattle.binary_words.proofs.LengthLaws.{part-few, handed_size, handed_long, handed_total, handed_less}
use Rattle.gather.specs.Kinds.{byte_of}
use Rattle.binary_words.proofs.windows_length.Goals as goal

pub places_length-sum-requires : goal.places_length-sum-requires
places_length-sum-requires c =
    let l = c.loop-win in
    let a = c.args in
    let s = a.s.now in
    let now' = c.next_window-n.new.win in
    let n = c.next_window-n.result in
    let ps = left s l.sorting in
    let rest = left s c.next_window-n.new.self in
    let h = c.next_window-n.ensures in
    let size = handed_size (byte_of a.kind) s l.win now' ps rest n h in
    let long = handed_long (byte_of a.kind) s l.win now' ps rest n h in
    let sums = handed_total (byte_of a.kind) s l.win now' ps rest n h in
    let few = part-few (byte_of a.kind) s in
    omega (arith, l.invariant.1)

pub overflow_add-sum : goal.overflow_add-sum
overflow_add-sum c =
    let l = c.loop-win in
    let a = c.args in
    let s = a.s.now in
    let now' = c.next_window-n.new.win in
    let n = c.next_window-n.result in
    let ps = left s l.sorting in
    let rest = left s c.next_window-n.new.self in
    let h = c.next_window-n.ensures in
    let size = handed_size (byte_of a.kind) s l.win now' ps rest n h in
    let long = handed_long (byte_of a.kind) s l.win now' ps rest n h in
    let sums = handed_total (byte_of a.kind) s l.win now' ps rest n h in
    let few = part-few (byte_of a.kind) s in
    omega (arith, l.invariant.1, c.places_length-sum.ensures)

pub loop-win-smaller : goal.loop-win-smaller
loop-win-smaller c =
    let l = c.loop-win in
    let a = c.args in
    let s = a.s.now in
    let now' = c.next_window-n.new.win in
    let n = c.next_window-n.result in
    let ps = left s l.sorting in
    let rest = left s c.next_window-n.new.self in
    let h = c.next_window-n.ensures in
    let size = handed_size (byte_of a.kind) s l.win now' ps rest n h in
    let long = handed_long (byte_of a.kind) s l.win now' ps rest n h in
    let sums = handed_total (byte_of a.kind) s l.win now' ps rest n h in
    let few = part-few (byte_of a.kind) s in
    handed_less (byte_of a.kind) s l.win now' ps rest n h (omega (arith, c.if-n-win.false, l.invariant.0, c.requires))

pub loop-win-preserved : goal.loop-win-preserved
loop-win-preserved c =
    let l = c.loop-win in
    let a = c.args in
    let s = a.s.now in
    let now' = c.next_window-n.new.win in
    let n = c.next_window-n.result in
    let ps = left s l.sorting in
    let rest = left s c.next_window-n.new.self in
    let h = c.next_window-n.ensures in
    let size = handed_size (byte_of a.kind) s l.win now' ps rest n h in
    let long = handed_long (byte_of a.kind) s l.win now' ps rest n h in
    let sums = handed_total (byte_of a.kind) s l.win now' ps rest n h in
    let few = part-few (byte_of a.kind) s in
    (long ∙ l.invariant.0, omega (arith, l.invariant.1, c.places_length-sum.ensures))
