use mathlib.Core.Path.{refl, sym, ap, ◌∙◌}
use mathlib.Core.Option.{none}
use native.Mathlib.Omega.{arith}
use borrow.Author.Tests.{not-true, not-false}
use Rattle.sorting.specs.Left.{left}
use Rattle.binary_words.specs.Apart.{place_of, apart_from}
use Rattle.binary_words.proofs.LengthLaws.{handed_size, handed_long, handed_joined, handed_less}
use Rattle.binary_words.proofs.ApartLaws.{apart-object, window_no, window-yes}
use mathlib.Core.Bool.{not}
use Rattle.binary_words.proofs.windows_apart.Goals as goal

pub loop-sorting-init : goal.loop-sorting-init
loop-sorting-init c =
    let s = c.args.s.now in
    (refl, ap (apart_from s none) c.new-sorting.ensures ∙ apart-object s)

pub returns-then-not-places_apart : goal.returns-then-not-places_apart
returns-then-not-places_apart c =
    let l = c.loop-sorting in
    let a = c.args in
    let s = a.s.now in
    let now' = c.next_window-n.new.win in
    let n = c.next_window-n.result in
    let ps = left s l.sorting in
    let rest = left s c.next_window-n.new.self in
    let h = c.next_window-n.ensures in
    let size = handed_size 2 s l.win now' ps rest n h in
    let long = handed_long 2 s l.win now' ps rest n h in
    let d = c.places_apart in
    sym (window_no s (place_of l.last) now' ps rest n (omega arith) (handed_joined 2 s l.win now' ps rest n h) (sym d.ensures ∙ not-true d.result (ap not c.if-not-places_apart.true))) ∙ l.invariant.1

pub loop-sorting-smaller : goal.loop-sorting-smaller
loop-sorting-smaller c =
    let l = c.loop-sorting in
    let a = c.args in
    let s = a.s.now in
    let now' = c.next_window-n.new.win in
    let n = c.next_window-n.result in
    let ps = left s l.sorting in
    let rest = left s c.next_window-n.new.self in
    let h = c.next_window-n.ensures in
    let size = handed_size 2 s l.win now' ps rest n h in
    let long = handed_long 2 s l.win now' ps rest n h in
    handed_less 2 s l.win now' ps rest n h (omega (arith, c.if-n-win.false, l.invariant.0, c.requires))

pub loop-sorting-preserved : goal.loop-sorting-preserved
loop-sorting-preserved c =
    let l = c.loop-sorting in
    let a = c.args in
    let s = a.s.now in
    let now' = c.next_window-n.new.win in
    let n = c.next_window-n.result in
    let ps = left s l.sorting in
    let rest = left s c.next_window-n.new.self in
    let h = c.next_window-n.ensures in
    let size = handed_size 2 s l.win now' ps rest n h in
    let long = handed_long 2 s l.win now' ps rest n h in
    let d = c.places_apart in
    (long ∙ l.invariant.0, sym (window-yes s (place_of l.last) now' ps rest n (omega arith) (handed_joined 2 s l.win now' ps rest n h) (omega (arith, c.if-n-win.false, l.invariant.0, c.requires)) (sym d.ensures ∙ not-false d.result (ap not c.if-not-places_apart.false))) ∙ l.invariant.1)
