-- Five parts, one after the other. Assumes nothing.
use borrow.Author.Rules.{rules}
use borrow.Author.Tests.{leb-true, leb-false}
use native.Mathlib.Omega.{arith}
use mathlib.Core.Path.{◌≡◌, refl, sym, ◌∙◌}
use mathlib.Core.List.{List, [], ◌∷◌, ◌++◌}
use Prim.Native.Nat.{ℕ, ◌+◌, ◌^◌, ◌<◌}
use lib.ListN.{length, set}
use Rattle.format.specs.TextWriter.{decimal, spaces, to_right}
use Rattle.writing.proofs.WriteLaws.{too_short}
use Rattle.writing.proofs.Parts.{State, Emits, after, begun, emit, emit_one, room-one, emitted, within, small}
use Rattle.object.specs.Texts.{text_bytes}
use Rattle.label_tables.specs.Rows.{label_line}
use Rattle.label_tables.proofs.RowLaws.{div, label-parts, label-size}
use Rattle.label_tables.proofs.put_label_row.Lts as lts
use Rattle.label_tables.proofs.put_label_row.Reads as reads
use Rattle.label_tables.proofs.put_label_row.Tie as tie
use Rattle.label_tables.proofs.put_label_row.Goals as goal

abbrev After-put_right : Type 0
After-put_right = lts.After-put_right tie.the-claims reads.Pre reads.Post

abbrev After-put_bytes : Type 0
After-put_bytes = lts.After-put_bytes tie.the-claims reads.Pre reads.Post

abbrev After-put_spaces : Type 0
After-put_spaces = lts.After-put_spaces tie.the-claims reads.Pre reads.Post

abbrev After-put_text : Type 0
After-put_text = lts.After-put_text tie.the-claims reads.Pre reads.Post

abbrev After-is_room : Type 0
After-is_room = lts.After-is_room tie.the-claims reads.Pre reads.Post

abbrev ws : (t : After-is_room) → List ℕ
ws t = t.args.ws.now

abbrev fill : (t : After-is_room) → ℕ
fill t = t.fill_of-fill.result

abbrev first : (t : After-is_room) → ℕ
first t = t.start_at-start.result

abbrev name : (t : After-is_room) → List ℕ
name t = text_bytes (ws t) t.name_of-name.result.at t.name_of-name.result.len

abbrev left3 : (t : After-is_room) → List ℕ
left3 t = to_right t.args.widths.indices (decimal (first t)) ++ (0x0A ∷ [])

abbrev left2 : (t : After-is_room) → List ℕ
left2 t = div ++ (left3 t)

abbrev left1 : (t : After-is_room) → List ℕ
left1 t = spaces (fill t) ++ (left2 t)

abbrev line : (t : After-is_room) → List ℕ
line t = label_line t.args.widths.names t.args.widths.indices (ws t) t.args.p

parts : (t : After-is_room) → (line t) ≡ (name t) ++ (left1 t)
parts t =
    sym (label-parts (ws t) t.args.p t.args.widths.names t.args.widths.indices (fill t) (first t) (name t) t.name_of-name.ensures.0
    t.fill_of-fill.ensures t.start_at-start.ensures)

-- how long it is
abbrev sum : (t : After-is_room) → ℕ
sum t = t.name_of-name.result.len + 4 + (fill t) + t.right_len-right.result

long : (t : After-is_room) → length (line t) ≡ (sum t)
long t =
    label-size (ws t) t.args.p t.name_of-name.result.at t.name_of-name.result.len t.name_of-name.ensures.0
    t.args.widths.names t.args.widths.indices (fill t) (first t) t.right_len-right.result t.fill_of-fill.ensures
    t.start_at-start.ensures t.right_len-right.ensures

abbrev room : (t : After-is_room) → List ℕ
room t = t.args.out.now

tight : (t : After-is_room) → length (room t) < 2 ^ 64
tight t = search rules

abbrev state1 : (c : After-put_text) → State ℕ
state1 c = record { at = c.put_text-k.result; out = c.put_text-k.new.out }

emits1 : (c : After-put_text) → Emits (line c.before.before.before) (room c.before.before.before) (left1 c.before.before.before) (state1 c)
emits1 c =
    let h = leb-true (sum c.before.before.before) (length (room c.before.before.before)) (sym c.is_room.ensures ∙ c.if-not-is_room.false) in
    begun (name c.before.before.before) (left1 c.before.before.before) (parts c.before.before.before) (omega (arith, long c.before.before.before, h)) c.put_text-k.ensures

abbrev state2 : (c : After-put_spaces) → State ℕ
state2 c = after (state1 c.before.before.before.before) c.put_spaces-k.result c.put_spaces-k.new.out

emits2 : (c : After-put_spaces) → Emits (line c.before.before.before.before.before.before.before) (room c.before.before.before.before.before.before.before) (left2 c.before.before.before.before.before.before.before) (state2 c)
emits2 c = emit (emits1 c.before.before.before.before) (spaces (fill c.before.before.before.before.before.before.before)) (left2 c.before.before.before.before.before.before.before) refl c.put_spaces-k.ensures

abbrev state3 : (c : After-put_bytes) → State ℕ
state3 c = after (state2 c.before.before.before.before.before.before) c.put_bytes-k.result c.put_bytes-k.new.out

emits3 : (c : After-put_bytes) → Emits (line c.before.before.before.before.before.before.before.before.before.before.before.before.before) (room c.before.before.before.before.before.before.before.before.before.before.before.before.before) (left3 c.before.before.before.before.before.before.before.before.before.before.before.before.before) (state3 c)
emits3 c = emit (emits2 c.before.before.before.before.before.before) div (left3 c.before.before.before.before.before.before.before.before.before.before.before.before.before) refl c.put_bytes-k.ensures

abbrev state4 : (c : After-put_right) → State ℕ
state4 c = after (state3 c.before.before.before.before) c.put_right-k.result c.put_right-k.new.out

emits4 : (c : After-put_right) → Emits (line c.before.before.before.before.before.before.before.before.before.before.before.before.before.before.before.before.before) (room c.before.before.before.before.before.before.before.before.before.before.before.before.before.before.before.before.before) (0x0A ∷ []) (state4 c)
emits4 c = emit (emits3 c.before.before.before.before) (to_right c.args.widths.indices (decimal (first c.before.before.before.before.before.before.before.before.before.before.before.before.before.before.before.before.before))) (0x0A ∷ []) refl c.put_right-k.ensures

emits5 : (c : After-put_right) → Emits (line c.before.before.before.before.before.before.before.before.before.before.before.before.before.before.before.before.before) (room c.before.before.before.before.before.before.before.before.before.before.before.before.before.before.before.before.before) [] (record { at = (state4 c).at + 1; out = set (state4 c).out (state4 c).at 0x0A })
emits5 c = emit_one (emits4 c) 0x0A [] refl

pub returns-then-not-is_room : goal.returns-then-not-is_room
returns-then-not-is_room c =
    too_short _ _ (sum c.before.before) (long c.before.before)
    (leb-false (sum c.before.before) (length (room c.before.before)) (sym c.is_room.ensures ∙ c.if-not-is_room.true))

pub slice_bounds-put_spaces-count : goal.slice_bounds-put_spaces-count
slice_bounds-put_spaces-count c = within (emits1 c.before.before.before)

pub slice_bounds-put_spaces-start : goal.slice_bounds-put_spaces-start
slice_bounds-put_spaces-start c = within (emits1 c.before.before.before)

pub overflow_add-k : goal.overflow_add-k
overflow_add-k c = small (emits2 c.before.before.before) (tight c.before.before.before.before.before.before.before.before.before.before)

pub slice_bounds-put_bytes-count : goal.slice_bounds-put_bytes-count
slice_bounds-put_bytes-count c = within (emits2 c.before.before.before)

pub slice_bounds-put_bytes-start : goal.slice_bounds-put_bytes-start
slice_bounds-put_bytes-start c = within (emits2 c.before.before.before)

pub slice_bounds-put_right-count : goal.slice_bounds-put_right-count
slice_bounds-put_right-count c = within (emits3 c.before.before.before)

pub slice_bounds-put_right-start : goal.slice_bounds-put_right-start
slice_bounds-put_right-start c = within (emits3 c.before.before.before)

pub overflow_add-k-3 : goal.overflow_add-k-3
overflow_add-k-3 c = small (emits4 c.before.before.before) (tight c.before.before.before.before.before.before.before.before.before.before.before.before.before.before.before.before.before.before.before.before)

pub bounds-out-k : goal.bounds-out-k
bounds-out-k c = room-one (emits4 c.before.before.before) 0x0A [] refl

pub overflow_add-result : goal.overflow_add-result
overflow_add-result c = small (emits5 c.before.before.before) (tight c.before.before.before.before.before.before.before.before.before.before.before.before.before.before.before.before.before.before.before.before)

pub returns : goal.returns
returns c = emitted (emits5 c.before.before.before) refl

pub overflow_add-k-2 : goal.overflow_add-k-2
overflow_add-k-2 c = small (emits3 c.before.before.before) (tight c.before.before.before.before.before.before.before.before.before.before.before.before.before.before.before.before)
