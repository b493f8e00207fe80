-- A row a turn. Assumes nothing.
use native.Mathlib.Omega.{arith}
use mathlib.Core.Path.{ap, ◌∙◌}
use mathlib.Core.List.{List}
use Prim.Native.Nat.{ℕ, ◌+◌, ◌-◌}
use lib.ListN.{length, drop, get_or, drop_of_length-le}
use Rattle.writing.proofs.Parts.{Emits, after, emitted, within, small, same}
use Rattle.writing.proofs.EachLaws.{drop_at_place}
use Rattle.measuring.specs.Fitting.{fitting}
use Rattle.measuring.proofs.FittingLaws.{fill_begin, fill_one}
use Rattle.label_tables.specs.Tables.{line_of}
use Rattle.label_windows.proofs.FitLaws.{nothing-fits}
use Rattle.label_windows.proofs.put_rows.Goals as goal
use Rattle.label_windows.proofs.put_rows.Goals.{After-put_row-at}

abbrev i : (c : After-put_row-at) → ℕ
i c = c.loop-p.p-index

abbrev line : (c : After-put_row-at) → ℕ → List ℕ
line c = line_of c.args.t c.args.ws.now

abbrev win : (c : After-put_row-at) → List ℕ
win c = c.args.win.now

emits : (c : After-put_row-at) → Emits (fitting (line c) (length c.args.out.now) (win c)) c.args.out.now
    (fitting (line c) (length c.args.out.now - (c.loop-p.at + c.put_row-at.result)) (drop (i c + 1) (win c)))
    (after (record { at = c.loop-p.at; out = c.loop-p.out }) c.put_row-at.result c.put_row-at.new.out)
emits c =
    fill_one c.loop-p.invariant (line c) (get_or (win c) (i c) 0) (drop (i c + 1) (win c)) c.put_row-at.new.out c.put_row-at.result
    (ap (fitting (line c) (length c.args.out.now - c.loop-p.at)) (drop_at_place 0 (win c) (i c) c.loop-p-test.true))
    c.put_row-at.ensures

pub loop-p-init : goal.loop-p-init
loop-p-init c = let a = c.args in fill_begin (line_of a.t a.ws.now) a.win.now a.out.now

pub loop-p-preserved : goal.loop-p-preserved
loop-p-preserved c = emits (goal.at.loop-p-preserved c).After-put_row-at

pub shape_of-out : goal.shape_of-out
shape_of-out c = same c.loop-p.invariant

pub returns : goal.returns
returns c =
    let a = c.args in
    let line = line_of a.t a.ws.now in
    let room : ℕ = length a.out.now - c.loop-p.at in
    emitted c.loop-p.invariant
    (ap (fitting line room) (drop_of_length-le a.win.now {i = c.loop-p.p-index} (omega arith)) ∙ nothing-fits line room)

pub slice_bounds-put_row-count : goal.slice_bounds-put_row-count
slice_bounds-put_row-count c = within c.loop-p.invariant

pub slice_bounds-put_row-start : goal.slice_bounds-put_row-start
slice_bounds-put_row-start c = within c.loop-p.invariant

pub overflow_add-at : goal.overflow_add-at
overflow_add-at c = small (emits (goal.at.overflow_add-at c).After-put_row-at) (omega arith)
