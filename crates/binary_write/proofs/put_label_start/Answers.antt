-- Kind and address, whether it is external, and source start. Assumes nothing.
use native.Mathlib.Omega.{arith}
use mathlib.Core.Path.{refl, sym}
use mathlib.Core.List.{List, [], ◌∷◌, ◌++◌, append-nil}
use Prim.Native.Nat.{ℕ}
use Rattle.format.specs.Digits.{digits_of}
use Rattle.writing.proofs.WriteLaws.{too_short}
use Rattle.writing.proofs.Parts.{State, Emits, after, begin, emit, emitted, within, small, same}
use Rattle.binary_write.proofs.put_label_start.Lts as lts
use Rattle.binary_write.proofs.put_label_start.Reads as reads
use Rattle.binary_write.proofs.put_label_start.Tie as tie
use Rattle.binary_write.proofs.put_label_start.Goals as goal

abbrev After-put_u64_le : Type 0
After-put_u64_le = lts.After-put_u64_le tie.the-claims reads.Pre reads.Post

abbrev After-put_u8 : Type 0
After-put_u8 = lts.After-put_u8 tie.the-claims reads.Pre reads.Post

abbrev After-put_address : Type 0
After-put_address = lts.After-put_address tie.the-claims reads.Pre reads.Post

abbrev Else1 : Type 0
Else1 = lts.Else1 tie.the-claims reads.Pre reads.Post

abbrev Start : Type 0
Start = lts.Start tie.the-claims reads.Pre reads.Post

abbrev room : (s : Start) → List ℕ
room s = s.args.out.now

abbrev left3 : (s : Start) → List ℕ
left3 s = []

abbrev left2 : (s : Start) → List ℕ
left2 s = digits_of 8 8 s.args.start

abbrev left1 : (s : Start) → List ℕ
left1 s = (s.args.external ∷ []) ++ (left2 s)

abbrev whole : (s : Start) → List ℕ
whole s = (0x01 ∷ digits_of 8 2 s.args.address) ++ (left1 s)

abbrev state0 : Else1 → State ℕ
state0 c = record { at = 0; out = room c.before.before }

emits0 : (c : Else1) → Emits (whole c.before.before) (room c.before.before) (whole c.before.before) (state0 c)
unfolding digits_of
emits0 c = begin (whole c.before.before) (room c.before.before) c.if-out-lt12.false

abbrev state1 : After-put_address → State ℕ
state1 c = after (state0 c.before.before) c.put_address-o.result c.put_address-o.new.out

emits1 : (c : After-put_address) → Emits (whole c.before.before.before.before) (room c.before.before.before.before) (left1 c.before.before.before.before) (state1 c)
emits1 c = emit (emits0 c.before.before) _ _ refl c.put_address-o.ensures

abbrev state2 : After-put_u8 → State ℕ
state2 c = after (state1 c.before.before.before.before) c.put_u8-o.result c.put_u8-o.new.out

emits2 : (c : After-put_u8) → Emits (whole c.before.before.before.before.before.before.before.before) (room c.before.before.before.before.before.before.before.before) (left2 c.before.before.before.before.before.before.before.before) (state2 c)
emits2 c = emit (emits1 c.before.before.before.before) _ _ refl c.put_u8-o.ensures

abbrev state3 : After-put_u64_le → State ℕ
state3 c = after (state2 c.before.before.before.before) c.put_u64_le-o.result c.put_u64_le-o.new.out

emits3 : (c : After-put_u64_le) → Emits (whole c.before.before.before.before.before.before.before.before.before.before.before.before) (room c.before.before.before.before.before.before.before.before.before.before.before.before) (left3 c.before.before.before.before.before.before.before.before.before.before.before.before) (state3 c)
emits3 c = emit (emits2 c.before.before.before.before) _ _ (sym (append-nil _)) c.put_u64_le-o.ensures

pub returns-then-out-lt12 : goal.returns-then-out-lt12
unfolding digits_of
returns-then-out-lt12 c = too_short (whole c.before.before.before) _ 12 refl c.if-out-lt12.true

pub slice_bounds-put_address-count : goal.slice_bounds-put_address-count
slice_bounds-put_address-count c = within (emits0 c.before)

pub slice_bounds-put_address-start : goal.slice_bounds-put_address-start
slice_bounds-put_address-start c = within (emits0 c.before)

pub overflow_add-o : goal.overflow_add-o
overflow_add-o c = small (emits1 c.before.before.before) (omega arith)

pub slice_bounds-put_u8-count : goal.slice_bounds-put_u8-count
slice_bounds-put_u8-count c = within (emits1 c.before.before.before)

pub slice_bounds-put_u8-start : goal.slice_bounds-put_u8-start
slice_bounds-put_u8-start c = within (emits1 c.before.before.before)

pub overflow_add-o-2 : goal.overflow_add-o-2
overflow_add-o-2 c = small (emits2 c.before.before.before) (omega arith)

pub slice_bounds-put_u64_le-count : goal.slice_bounds-put_u64_le-count
slice_bounds-put_u64_le-count c = within (emits2 c.before.before.before)

pub slice_bounds-put_u64_le-start : goal.slice_bounds-put_u64_le-start
slice_bounds-put_u64_le-start c = within (emits2 c.before.before.before)

pub overflow_add-o-3 : goal.overflow_add-o-3
overflow_add-o-3 c = small (emits3 c.before.before.before) (omega arith)

pub shape_of-out : goal.shape_of-out
shape_of-out c = same (emits3 c.before.before.before)

pub returns : goal.returns
returns c = emitted (emits3 c.before.before.before) refl
