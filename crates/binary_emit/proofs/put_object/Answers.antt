-- Part by part, into the rest of the room. Assumes nothing.
use mathlib.Core.Path.{refl}
use mathlib.Core.List.{List, [], ◌++◌}
use Prim.Native.Nat.{ℕ}
use native.Mathlib.Omega.{arith}
use Rattle.writing.proofs.Parts.{State, Emits, after, emit, emitted, within, same}
use Rattle.binary_words.specs.RecordAt.{part_words}
use Rattle.binary_sizes.specs.ObjectWords.{source_words, relocation_words, object_words}
use Rattle.record_words.proofs.RecordLaws.{first, first-room, room_for_lem}
use Rattle.binary_emit.proofs.ChunkLaws.{object-parts}
use Rattle.binary_emit.proofs.put_object.Lts as lts
use Rattle.binary_emit.proofs.put_object.Reads as reads
use Rattle.binary_emit.proofs.put_object.Tie as tie
use Rattle.binary_emit.proofs.put_object.Goals as goal

abbrev After-put_relocations : Type 0
After-put_relocations = lts.After-put_relocations tie.the-claims reads.Pre reads.Post

abbrev After-put_source : Type 0
After-put_source = lts.After-put_source tie.the-claims reads.Pre reads.Post

abbrev After-put_part3 : Type 0
After-put_part3 = lts.After-put_part3 tie.the-claims reads.Pre reads.Post

abbrev After-put_part2 : Type 0
After-put_part2 = lts.After-put_part2 tie.the-claims reads.Pre reads.Post

abbrev After-put_part : Type 0
After-put_part = lts.After-put_part tie.the-claims reads.Pre reads.Post

abbrev Start : Type 0
Start = lts.Start tie.the-claims reads.Pre reads.Post

abbrev bytes : Start → List ℕ
bytes k = k.args.s.now

-- what is left to emit, in the state after each part
abbrev Leaves : Start → List ℕ → State ℕ → Type 0
Leaves k left s = Emits (object_words (bytes k)) k.args.out.now left s

abbrev left1 : Start → List ℕ
left1 k = part_words 1 (bytes k) ++ (part_words 2 (bytes k) ++ (source_words (bytes k) ++ (relocation_words (bytes k) ++ [])))

abbrev left2 : Start → List ℕ
left2 k = part_words 2 (bytes k) ++ (source_words (bytes k) ++ (relocation_words (bytes k) ++ []))

abbrev left3 : Start → List ℕ
left3 k = source_words (bytes k) ++ (relocation_words (bytes k) ++ [])

abbrev left4 : Start → List ℕ
left4 k = relocation_words (bytes k) ++ []

abbrev left5 : Start → List ℕ
left5 k = []

abbrev state1 : After-put_part → State ℕ
state1 c = record { at = c.put_part-at.result; out = c.put_part-at.new.out }

emits1 : (c : After-put_part) → Leaves c.before.before.before.before (left1 c.before.before.before.before) (state1 c)
emits1 c =
    first (part_words 0 (bytes c.before.before.before.before)) (left1 c.before.before.before.before) (object-parts (bytes c.before.before.before.before)) c.requires c.put_part-at.ensures

abbrev state2 : After-put_part2 → State ℕ
state2 c = after (state1 c.before.before.before.before) c.put_part-at-2.result c.put_part-at-2.new.out

emits2 : (c : After-put_part2) → Leaves c.before.before.before.before.before.before.before.before (left2 c.before.before.before.before.before.before.before.before) (state2 c)
emits2 c =
    emit (emits1 c.before.before.before.before) (part_words 1 (bytes c.before.before.before.before.before.before.before.before)) (left2 c.before.before.before.before.before.before.before.before) refl c.put_part-at-2.ensures

abbrev state3 : After-put_part3 → State ℕ
state3 c = after (state2 c.before.before.before.before) c.put_part-at-3.result c.put_part-at-3.new.out

emits3 : (c : After-put_part3) → Leaves c.before.before.before.before.before.before.before.before.before.before.before.before (left3 c.before.before.before.before.before.before.before.before.before.before.before.before) (state3 c)
emits3 c =
    emit (emits2 c.before.before.before.before) (part_words 2 (bytes c.before.before.before.before.before.before.before.before.before.before.before.before)) (left3 c.before.before.before.before.before.before.before.before.before.before.before.before) refl c.put_part-at-3.ensures

abbrev state4 : After-put_source → State ℕ
state4 c = after (state3 c.before.before.before.before) c.put_source-at.result c.put_source-at.new.out

emits4 : (c : After-put_source) → Leaves c.before.before.before.before.before.before.before.before.before.before.before.before.before.before.before.before (left4 c.before.before.before.before.before.before.before.before.before.before.before.before.before.before.before.before) (state4 c)
emits4 c =
    emit (emits3 c.before.before.before.before) (source_words (bytes c.before.before.before.before.before.before.before.before.before.before.before.before.before.before.before.before)) (left4 c.before.before.before.before.before.before.before.before.before.before.before.before.before.before.before.before) refl c.put_source-at.ensures

abbrev state5 : After-put_relocations → State ℕ
state5 c = after (state4 c.before.before.before.before) c.put_relocations-at.result c.put_relocations-at.new.out

emits5 : (c : After-put_relocations) → Leaves c.before.before.before.before.before.before.before.before.before.before.before.before.before.before.before.before.before.before.before.before (left5 c.before.before.before.before.before.before.before.before.before.before.before.before.before.before.before.before.before.before.before.before) (state5 c)
emits5 c =
    emit (emits4 c.before.before.before.before) (relocation_words (bytes c.before.before.before.before.before.before.before.before.before.before.before.before.before.before.before.before.before.before.before.before)) (left5 c.before.before.before.before.before.before.before.before.before.before.before.before.before.before.before.before.before.before.before.before) refl c.put_relocations-at.ensures

pub put_part-at-requires : goal.put_part-at-requires
put_part-at-requires c = first-room (object_words (bytes c.before.before.before.before)) c.args.out.now (part_words 0 (bytes c.before.before.before.before)) (left1 c.before.before.before.before) (object-parts (bytes c.before.before.before.before)) c.requires

pub offset_bounds-out-at : goal.offset_bounds-out-at
offset_bounds-out-at c = let e = emits1 c.before.before.before in omega (arith, within e, same e)

pub slice_bounds-put_part-count : goal.slice_bounds-put_part-count
slice_bounds-put_part-count c = within (emits1 c.before.before.before)

pub slice_bounds-put_part-start : goal.slice_bounds-put_part-start
slice_bounds-put_part-start c = within (emits1 c.before.before.before)

pub put_part-at-requires-2 : goal.put_part-at-requires-2
put_part-at-requires-2 c = room_for_lem (emits1 c.before.before.before.before) (part_words 1 (bytes c.before.before.before.before.before.before.before.before)) (left2 c.before.before.before.before.before.before.before.before) refl

pub overflow_add-at : goal.overflow_add-at
overflow_add-at c = let e = emits2 c.before.before.before in omega (arith, within e, same e)

pub offset_bounds-out-at-2 : goal.offset_bounds-out-at-2
offset_bounds-out-at-2 c = let e = emits2 c.before.before.before in omega (arith, within e, same e)

pub slice_bounds-put_part-count-2 : goal.slice_bounds-put_part-count-2
slice_bounds-put_part-count-2 c = within (emits2 c.before.before.before)

pub slice_bounds-put_part-start-2 : goal.slice_bounds-put_part-start-2
slice_bounds-put_part-start-2 c = within (emits2 c.before.before.before)

pub put_part-at-requires-3 : goal.put_part-at-requires-3
put_part-at-requires-3 c = room_for_lem (emits2 c.before.before.before.before) (part_words 2 (bytes c.before.before.before.before.before.before.before.before.before.before.before.before)) (left3 c.before.before.before.before.before.before.before.before.before.before.before.before) refl

pub overflow_add-at-2 : goal.overflow_add-at-2
overflow_add-at-2 c = let e = emits3 c.before.before.before in omega (arith, within e, same e)

pub offset_bounds-out-at-3 : goal.offset_bounds-out-at-3
offset_bounds-out-at-3 c = let e = emits3 c.before.before.before in omega (arith, within e, same e)

pub slice_bounds-put_source-count : goal.slice_bounds-put_source-count
slice_bounds-put_source-count c = within (emits3 c.before.before.before)

pub slice_bounds-put_source-start : goal.slice_bounds-put_source-start
slice_bounds-put_source-start c = within (emits3 c.before.before.before)

pub put_source-at-requires : goal.put_source-at-requires
put_source-at-requires c = room_for_lem (emits3 c.before.before.before.before) (source_words (bytes c.before.before.before.before.before.before.before.before.before.before.before.before.before.before.before.before)) (left4 c.before.before.before.before.before.before.before.before.before.before.before.before.before.before.before.before) refl

pub overflow_add-at-3 : goal.overflow_add-at-3
overflow_add-at-3 c = let e = emits4 c.before.before.before in omega (arith, within e, same e)

pub offset_bounds-out-at-4 : goal.offset_bounds-out-at-4
offset_bounds-out-at-4 c = let e = emits4 c.before.before.before in omega (arith, within e, same e)

pub slice_bounds-put_relocations-count : goal.slice_bounds-put_relocations-count
slice_bounds-put_relocations-count c = within (emits4 c.before.before.before)

pub slice_bounds-put_relocations-start : goal.slice_bounds-put_relocations-start
slice_bounds-put_relocations-start c = within (emits4 c.before.before.before)

pub put_relocations-at-requires : goal.put_relocations-at-requires
put_relocations-at-requires c = room_for_lem (emits4 c.before.before.before.before) (relocation_words (bytes c.before.before.before.before.before.before.before.before.before.before.before.before.before.before.before.before.before.before.before.before)) (left5 c.before.before.before.before.before.before.before.before.before.before.before.before.before.before.before.before.before.before.before.before) refl

pub overflow_add-at-4 : goal.overflow_add-at-4
overflow_add-at-4 c = let e = emits5 c.before.before.before in omega (arith, within e, same e)

pub shape_of-out : goal.shape_of-out
shape_of-out c = same (emits5 c.before.before.before)

pub returns : goal.returns
returns c = emitted (emits5 c.before.before.before) refl
