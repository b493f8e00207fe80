-- Five parts, one after the other. Assumes nothing.
use borrow.Author.Rules.{rules}
use borrow.Author.Tests.{leb-true, leb-false}
use native.Mathlib.Omega.{arith}
use mathlib.Core.Path.{◌≡◌, refl, sym, ap₂, ◌∙◌}
use mathlib.Core.List.{List, [], ◌∷◌, ◌++◌}
use Prim.Native.Nat.{ℕ, ◌+◌, ◌^◌, ◌<◌}
use lib.ListN.{length, set}
use Rattle.format.specs.TextWriter.{spaces, text_line, label_header}
use Rattle.writing.proofs.WriteLaws.{too_short}
use Rattle.writing.proofs.Parts.{State, Emits, after, begun, emit, emit_one, room-one, emitted, within, small}
use Rattle.label_tables.proofs.FrameLaws.{label_bytes, index_bytes, header_parts, label-header, label-header-size}
use Rattle.label_tables.proofs.put_label_header.Lts as lts
use Rattle.label_tables.proofs.put_label_header.Reads as reads
use Rattle.label_tables.proofs.put_label_header.Tie as tie
use Rattle.label_tables.proofs.put_label_header.Goals as goal

abbrev After-put_spaces2 : Type 0
After-put_spaces2 = lts.After-put_spaces2 tie.the-claims reads.Pre reads.Post

abbrev After-put_bytes2 : Type 0
After-put_bytes2 = lts.After-put_bytes2 tie.the-claims reads.Pre reads.Post

abbrev After-put_spaces : Type 0
After-put_spaces = lts.After-put_spaces tie.the-claims reads.Pre reads.Post

abbrev After-put_bytes : Type 0
After-put_bytes = lts.After-put_bytes tie.the-claims reads.Pre reads.Post

abbrev After-is_room : Type 0
After-is_room = lts.After-is_room tie.the-claims reads.Pre reads.Post

abbrev a : (t : After-is_room) → ℕ
a t = t.past_header-a.result

abbrev b : (t : After-is_room) → ℕ
b t = t.past_header-b.result

abbrev line : (t : After-is_room) → List ℕ
line t = text_line (label_header t.args.widths.names t.args.widths.indices)

abbrev left3 : (t : After-is_room) → List ℕ
left3 t = spaces (b t) ++ (0x0A ∷ [])

abbrev left2 : (t : After-is_room) → List ℕ
left2 t = index_bytes ++ (left3 t)

abbrev left1 : (t : After-is_room) → List ℕ
left1 t = spaces (a t) ++ (left2 t)

parts : (t : After-is_room) → (line t) ≡ label_bytes ++ (left1 t)
parts t =
    sym (ap₂ header_parts t.past_header-a.ensures t.past_header-b.ensures
    ∙ label-header t.args.widths.names t.args.widths.indices)

long : (t : After-is_room) → length (line t) ≡ 14 + (a t) + (b t)
long t =
    label-header-size t.args.widths.names t.args.widths.indices (a t) (b t) t.past_header-a.ensures
    t.past_header-b.ensures

abbrev room : (t : After-is_room) → List ℕ
room t = t.args.out.now

tight : (t : After-is_room) → length (room t) < 2 ^ 64
tight t = search rules

abbrev state1 : (c : After-put_bytes) → State ℕ
state1 c = record { at = c.put_bytes-k.result; out = c.put_bytes-k.new.out }

emits1 : (c : After-put_bytes) → Emits (line c.before.before.before.before.before) (room c.before.before.before.before.before) (left1 c.before.before.before.before.before) (state1 c)
emits1 c =
    let h = leb-true (14 + a c.before.before.before.before.before + b c.before.before.before.before.before) (length (room c.before.before.before.before.before)) (sym c.is_room.ensures ∙ c.if-not-is_room.false) in
    begun label_bytes (left1 c.before.before.before.before.before) (parts c.before.before.before.before.before) (omega (arith, long c.before.before.before.before.before, h)) c.put_bytes-k.ensures

abbrev state2 : (c : After-put_spaces) → State ℕ
state2 c = after (state1 c.before.before.before.before) c.put_spaces-k.result c.put_spaces-k.new.out

emits2 : (c : After-put_spaces) → Emits (line c.before.before.before.before.before.before.before.before.before) (room c.before.before.before.before.before.before.before.before.before) (left2 c.before.before.before.before.before.before.before.before.before) (state2 c)
emits2 c = emit (emits1 c.before.before.before.before) (spaces (a c.before.before.before.before.before.before.before.before.before)) (left2 c.before.before.before.before.before.before.before.before.before) refl c.put_spaces-k.ensures

abbrev state3 : (c : After-put_bytes2) → State ℕ
state3 c = after (state2 c.before.before.before.before.before.before) c.put_bytes-k-2.result c.put_bytes-k-2.new.out

emits3 : (c : After-put_bytes2) → Emits (line c.before.before.before.before.before.before.before.before.before.before.before.before.before.before.before) (room c.before.before.before.before.before.before.before.before.before.before.before.before.before.before.before) (left3 c.before.before.before.before.before.before.before.before.before.before.before.before.before.before.before) (state3 c)
emits3 c = emit (emits2 c.before.before.before.before.before.before) index_bytes (left3 c.before.before.before.before.before.before.before.before.before.before.before.before.before.before.before) refl c.put_bytes-k-2.ensures

abbrev state4 : (c : After-put_spaces2) → State ℕ
state4 c = after (state3 c.before.before.before.before) c.put_spaces-k-2.result c.put_spaces-k-2.new.out

emits4 : (c : After-put_spaces2) → Emits (line c.before.before.before.before.before.before.before.before.before.before.before.before.before.before.before.before.before.before.before) (room c.before.before.before.before.before.before.before.before.before.before.before.before.before.before.before.before.before.before.before) (0x0A ∷ []) (state4 c)
emits4 c = emit (emits3 c.before.before.before.before) (spaces (b c.before.before.before.before.before.before.before.before.before.before.before.before.before.before.before.before.before.before.before)) (0x0A ∷ []) refl c.put_spaces-k-2.ensures

emits5 : (c : After-put_spaces2) → Emits (line c.before.before.before.before.before.before.before.before.before.before.before.before.before.before.before.before.before.before.before) (room c.before.before.before.before.before.before.before.before.before.before.before.before.before.before.before.before.before.before.before) [] (record { at = (state4 c).at + 1; out = set (state4 c).out (state4 c).at 0x0A })
emits5 c = emit_one (emits4 c) 0x0A [] refl

pub returns-then-not-is_room : goal.returns-then-not-is_room
returns-then-not-is_room c =
    too_short _ _ (14 + a c.before.before + b c.before.before) (long c.before.before)
    (leb-false (14 + a c.before.before + b c.before.before) (length (room c.before.before)) (sym c.is_room.ensures ∙ c.if-not-is_room.true))

pub slice_bounds-put_spaces-start : goal.slice_bounds-put_spaces-start
slice_bounds-put_spaces-start c = within (emits1 c.before.before.before)

pub slice_bounds-put_bytes-count : goal.slice_bounds-put_bytes-count
slice_bounds-put_bytes-count c = within (emits2 c.before.before.before)

pub slice_bounds-put_bytes-start : goal.slice_bounds-put_bytes-start
slice_bounds-put_bytes-start c = within (emits2 c.before.before.before)

pub slice_bounds-put_spaces-count-2 : goal.slice_bounds-put_spaces-count-2
slice_bounds-put_spaces-count-2 c = within (emits3 c.before.before.before)

pub slice_bounds-put_spaces-start-2 : goal.slice_bounds-put_spaces-start-2
slice_bounds-put_spaces-start-2 c = within (emits3 c.before.before.before)

pub overflow_add-k-3 : goal.overflow_add-k-3
overflow_add-k-3 c = small (emits4 c.before.before) (tight c.before.before.before.before.before.before.before.before.before.before.before.before.before.before.before.before.before.before.before.before.before)

pub bounds-out-k : goal.bounds-out-k
bounds-out-k c = room-one (emits4 c.before.before) 0x0A [] refl

pub overflow_add-result : goal.overflow_add-result
overflow_add-result c = small (emits5 c.before.before) (tight c.before.before.before.before.before.before.before.before.before.before.before.before.before.before.before.before.before.before.before.before.before)

pub returns : goal.returns
returns c = emitted (emits5 c.before.before) refl

pub slice_bounds-put_spaces-count : goal.slice_bounds-put_spaces-count
slice_bounds-put_spaces-count c = within (emits1 c.before.before.before)

pub overflow_add-k : goal.overflow_add-k
overflow_add-k c = small (emits2 c.before.before.before) (tight c.before.before.before.before.before.before.before.before.before.before.before.before)

pub overflow_add-k-2 : goal.overflow_add-k-2
overflow_add-k-2 c = small (emits3 c.before.before.before) (tight c.before.before.before.before.before.before.before.before.before.before.before.before.before.before.before.before.before.before)
