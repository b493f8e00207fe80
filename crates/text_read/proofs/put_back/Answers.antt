-- Part by part, into the rest of the room. Assumes nothing.
use borrow.Author.Rules.{rules}
use native.Mathlib.Omega.{arith}
use mathlib.Core.Path.{refl, sym}
use mathlib.Core.List.{[], ◌++◌, append-nil}
use Rattle.writing.proofs.Parts.{Emits, after, begin, emit, emitted, within, small, same}
use Rattle.text_runs.proofs.RunLaws.{room_for_lem}
use Rattle.std.specs.Prelude.{is_some}
use Rattle.text_scan.specs.Walk.{rows_in}
use Rattle.text_read.specs.Parts.{joined, line_parts, source_parts, relocation_parts, back_parts}
use Rattle.text_read.proofs.PartLaws.{joined_back, joined-last, emit_each}
use Rattle.text_read.proofs.put_back.Goals as goal
use Rattle.text_read.proofs.put_back.Goals.{After-put_lines-at, After-put_source-at}

emits1 : (c : After-put_lines-at) →
    let a = c.args in
    let b = is_some a.source in
    let r = rows_in a.source in
    Emits (joined (back_parts a.u.now a.t.now b r a.kept)) a.out.now (joined (source_parts b a.t.now r ++ relocation_parts a.kept a.u.now))
    (after (record { at = 0; out = a.out.now }) c.put_lines-at.result c.put_lines-at.new.out)
emits1 c =
    let a = c.args in
    emit_each (begin _ _ c.requires.1) (line_parts (is_some a.source) a.t.now (rows_in a.source)) _ (joined_back a.u.now a.t.now (is_some a.source) (rows_in a.source) a.kept) c.put_lines-at.ensures

emits2 : (c : After-put_source-at) →
    let a = c.args in
    let b = is_some a.source in
    let r = rows_in a.source in
    Emits (joined (back_parts a.u.now a.t.now b r a.kept)) a.out.now (joined (relocation_parts a.kept a.u.now))
    (after (after (record { at = 0; out = a.out.now }) c.put_lines-at.result c.put_lines-at.new.out) c.put_source-at.result c.put_source-at.new.out)
emits2 c =
    let a = c.args in
    let b = is_some a.source in
    let r = rows_in a.source in
    emit (emit_each (begin _ _ c.requires.1) (line_parts b a.t.now r) _ (joined_back a.u.now a.t.now b r a.kept) c.put_lines-at.ensures)
    (joined (source_parts b a.t.now r)) _ (joined-last a.u.now a.t.now b r a.kept) c.put_source-at.ensures

pub put_source-at-requires : goal.put_source-at-requires
put_source-at-requires c =
    let a = c.args in (
      c.requires.0,
      room_for_lem (emits1 (goal.at.put_source-at-requires c).After-put_lines-at) (joined (source_parts (is_some a.source) a.t.now (rows_in a.source))) (joined (relocation_parts a.kept a.u.now))
          (joined-last a.u.now a.t.now (is_some a.source) (rows_in a.source) a.kept),
    )

pub offset_bounds-out-at-2 : goal.offset_bounds-out-at-2
offset_bounds-out-at-2 c = let h = within (emits1 (goal.at.offset_bounds-out-at-2 c).After-put_lines-at) in search rules

pub slice_bounds-put_source-count : goal.slice_bounds-put_source-count
slice_bounds-put_source-count c = within (emits1 (goal.at.slice_bounds-put_source-count c).After-put_lines-at)

pub slice_bounds-put_source-start : goal.slice_bounds-put_source-start
slice_bounds-put_source-start c = within (emits1 (goal.at.slice_bounds-put_source-start c).After-put_lines-at)

pub overflow_add-at-2 : goal.overflow_add-at-2
overflow_add-at-2 c = small (emits2 (goal.at.overflow_add-at-2 c).After-put_source-at) (omega arith)

pub offset_bounds-out-at-3 : goal.offset_bounds-out-at-3
offset_bounds-out-at-3 c = let h = within (emits2 (goal.at.offset_bounds-out-at-3 c).After-put_source-at) in let k = same (emits2 (goal.at.offset_bounds-out-at-3 c).After-put_source-at) in search rules

pub slice_bounds-put_relocations-count : goal.slice_bounds-put_relocations-count
slice_bounds-put_relocations-count c = within (emits2 (goal.at.slice_bounds-put_relocations-count c).After-put_source-at)

pub slice_bounds-put_relocations-start : goal.slice_bounds-put_relocations-start
slice_bounds-put_relocations-start c = within (emits2 (goal.at.slice_bounds-put_relocations-start c).After-put_source-at)

pub overflow_add-at-3 : goal.overflow_add-at-3
overflow_add-at-3 c = small (emit_each (emits2 (goal.at.overflow_add-at-3 c).After-put_source-at) (relocation_parts c.args.kept c.args.u.now) [] (sym (append-nil _)) c.put_relocations-at.ensures) (omega arith)

pub returns : goal.returns
returns c = emitted (emit_each (emits2 (goal.at.returns c).After-put_source-at) (relocation_parts c.args.kept c.args.u.now) [] (sym (append-nil _)) c.put_relocations-at.ensures) refl
