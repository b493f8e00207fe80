-- Part by part, into the rest of the room. Assumes nothing.
use borrow.Author.Rules.{rules}
use native.Mathlib.Omega.{arith}
use mathlib.Core.Path.{refl, sym}
use mathlib.Core.List.{List, [], append-nil}
use Prim.Native.Nat.{ℕ}
use Rattle.writing.proofs.Parts.{Emits, after, begin, emit, emitted, within, small}
use Rattle.text_runs.proofs.RunLaws.{room_for_lem}
use Rattle.std.specs.Prelude.{is_some}
use Rattle.text_scan.specs.Walk.{rows_in}
use Rattle.text_read.specs.Parts.{joined, front_parts, back_parts, object_parts}
use Rattle.text_read.proofs.PartLaws.{joined-kept, emit_each}
use Rattle.text_read.proofs.put_object.Goals as goal
use Rattle.text_read.proofs.put_object.Goals.{After-put_front-at}

emits1 : (c : After-put_front-at) →
    let a = c.args in
    let b = is_some a.source in
    let r = rows_in a.source in
    Emits (joined (object_parts a.u.now a.t.now b r)) a.out.now (joined (back_parts a.u.now a.t.now b r a.kept))
    (after (record { at = 0; out = a.out.now }) c.put_front-at.result c.put_front-at.new.out)
emits1 c =
    let a = c.args in
    emit_each (begin _ _ c.requires.1) (front_parts a.u.now) _ (joined-kept a.u.now a.t.now (is_some a.source) (rows_in a.source) a.kept c.requires.2) c.put_front-at.ensures

abbrev back : (c : After-put_front-at) → List ℕ
back c = let a = c.args in joined (back_parts a.u.now a.t.now (is_some a.source) (rows_in a.source) a.kept)

pub put_back-at-requires : goal.put_back-at-requires
put_back-at-requires c =
    let f = (goal.at.put_back-at-requires c).After-put_front-at in
    (c.requires.0, room_for_lem (emits1 f) (back f) [] (sym (append-nil _)))

pub put_front-at-requires : goal.put_front-at-requires
put_front-at-requires c = c.requires.3

pub offset_bounds-out-at-2 : goal.offset_bounds-out-at-2
offset_bounds-out-at-2 c = let h = within (emits1 (goal.at.offset_bounds-out-at-2 c).After-put_front-at) in search rules

pub slice_bounds-put_back-count : goal.slice_bounds-put_back-count
slice_bounds-put_back-count c = within (emits1 (goal.at.slice_bounds-put_back-count c).After-put_front-at)

pub slice_bounds-put_back-start : goal.slice_bounds-put_back-start
slice_bounds-put_back-start c = within (emits1 (goal.at.slice_bounds-put_back-start c).After-put_front-at)

pub overflow_add-at-2 : goal.overflow_add-at-2
overflow_add-at-2 c =
    let f = (goal.at.overflow_add-at-2 c).After-put_front-at in small (emit (emits1 f) (back f) [] (sym (append-nil _)) c.put_back-at.ensures) (omega arith)

pub returns : goal.returns
returns c =
    let f = (goal.at.returns c).After-put_front-at in emitted (emit (emits1 f) (back f) [] (sym (append-nil _)) c.put_back-at.ensures) refl
