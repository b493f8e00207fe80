-- Kind, first line and count. Assumes nothing.
use native.Mathlib.Omega.{arith}
use mathlib.Core.Path.{refl, sym}
use mathlib.Core.List.{List, [], ◌∷◌, ◌++◌, append-nil}
use Prim.Native.Nat.{ℕ}
use lib.ListN.{set}
use Rattle.format.specs.Digits.{digits_of}
use Rattle.writing.proofs.WriteLaws.{too_short}
use Rattle.writing.proofs.Parts.{State, Emits, after, begin, emit, emit_one, emitted, within, small, same}
use Rattle.binary_write.proofs.put_lines_start.Lts as lts
use Rattle.binary_write.proofs.put_lines_start.Reads as reads
use Rattle.binary_write.proofs.put_lines_start.Tie as tie
use Rattle.binary_write.proofs.put_lines_start.Goals as goal

abbrev After-put_u16_le : Type 0
After-put_u16_le = lts.After-put_u16_le tie.the-claims reads.Pre reads.Post

abbrev After-put_u64_le : Type 0
After-put_u64_le = lts.After-put_u64_le tie.the-claims reads.Pre reads.Post

abbrev Else1 : Type 0
Else1 = lts.Else1 tie.the-claims reads.Pre reads.Post

abbrev Start : Type 0
Start = lts.Start tie.the-claims reads.Pre reads.Post

abbrev room : (s : Start) → List ℕ
room s = s.args.out.now

abbrev left2 : (s : Start) → List ℕ
left2 s = []

abbrev left1 : (s : Start) → List ℕ
left1 s = digits_of 8 2 s.args.count

abbrev left0 : (s : Start) → List ℕ
left0 s = digits_of 8 8 s.args.first ++ (left1 s)

abbrev whole : (s : Start) → List ℕ
whole s = 0x02 ∷ (left0 s)

abbrev state0 : Else1 → State ℕ
state0 c = record { at = 1; out = set (room c.before.before) 0 0x02 }

emits0 : (c : Else1) → Emits (whole c.before.before) (room c.before.before) (left0 c.before.before) (state0 c)
unfolding digits_of
emits0 c = emit_one (begin (whole c.before.before) (room c.before.before) c.if-out-lt11.false) 0x02 (left0 c.before.before) refl

abbrev state1 : After-put_u64_le → State ℕ
state1 c = after (state0 c.before.before) c.put_u64_le-o.result c.put_u64_le-o.new.out

emits1 : (c : After-put_u64_le) → Emits (whole c.before.before.before.before) (room c.before.before.before.before) (left1 c.before.before.before.before) (state1 c)
emits1 c = emit (emits0 c.before.before) _ _ refl c.put_u64_le-o.ensures

abbrev state2 : After-put_u16_le → State ℕ
state2 c = after (state1 c.before.before.before.before) c.put_u16_le-o.result c.put_u16_le-o.new.out

emits2 : (c : After-put_u16_le) → Emits (whole c.before.before.before.before.before.before.before.before) (room c.before.before.before.before.before.before.before.before) (left2 c.before.before.before.before.before.before.before.before) (state2 c)
emits2 c = emit (emits1 c.before.before.before.before) _ _ (sym (append-nil _)) c.put_u16_le-o.ensures

pub returns-then-out-lt11 : goal.returns-then-out-lt11
unfolding digits_of
returns-then-out-lt11 c = too_short (whole c.before.before.before) _ 11 refl c.if-out-lt11.true

pub slice_bounds-put_u64_le-count : goal.slice_bounds-put_u64_le-count
slice_bounds-put_u64_le-count c = within (emits0 c)

pub slice_bounds-put_u64_le-start : goal.slice_bounds-put_u64_le-start
slice_bounds-put_u64_le-start c = within (emits0 c)

pub overflow_add-o : goal.overflow_add-o
overflow_add-o c = small (emits1 c.before.before.before) (omega arith)

pub slice_bounds-put_u16_le-count : goal.slice_bounds-put_u16_le-count
slice_bounds-put_u16_le-count c = within (emits1 c.before.before.before)

pub slice_bounds-put_u16_le-start : goal.slice_bounds-put_u16_le-start
slice_bounds-put_u16_le-start c = within (emits1 c.before.before.before)

pub overflow_add-o-2 : goal.overflow_add-o-2
overflow_add-o-2 c = small (emits2 c.before.before.before) (omega arith)

pub shape_of-out : goal.shape_of-out
shape_of-out c = same (emits2 c.before.before.before)

pub returns : goal.returns
returns c = emitted (emits2 c.before.before.before) refl
