-- Two parts. Assumes nothing.
use native.Mathlib.Omega.{arith}
use mathlib.Core.Path.{refl, sym}
use mathlib.Core.List.{List, [], ◌∷◌, append-nil}
use Prim.Native.Nat.{ℕ}
use Rattle.writing.proofs.WriteLaws.{too_short}
use Rattle.writing.proofs.Parts.{State, Emits, after, begin, emit, emitted, within, small}
use Rattle.format.specs.TextWriter.{hex4, text_line}
use Rattle.text_rows_out.proofs.RowLaws.{address-length}
use Rattle.text_rows_out.proofs.put_address_line.Lts as lts
use Rattle.text_rows_out.proofs.put_address_line.Reads as reads
use Rattle.text_rows_out.proofs.put_address_line.Tie as tie
use Rattle.text_rows_out.proofs.put_address_line.Goals as goal

abbrev After-put_u8 : Type 0
After-put_u8 = lts.After-put_u8 tie.the-claims reads.Pre reads.Post

abbrev After-put_hex4 : Type 0
After-put_hex4 = lts.After-put_hex4 tie.the-claims reads.Pre reads.Post

abbrev Else1 : Type 0
Else1 = lts.Else1 tie.the-claims reads.Pre reads.Post

abbrev Start : Type 0
Start = lts.Start tie.the-claims reads.Pre reads.Post

abbrev room : Start → List ℕ
room t = t.args.out.now

abbrev whole : Start → List ℕ
whole t = text_line (hex4 t.args.address)

abbrev state0 : Start → State ℕ
state0 t = record { at = 0; out = room t }

emits0 : (c : Else1) → Emits (whole c.before.before) (room c.before.before) (whole c.before.before) (state0 c.before.before)
emits0 c = begin _ _ (omega (arith, address-length c.args.address, c.if-out-lt5.false))

abbrev left1 : Start → List ℕ
left1 t = 0x0A ∷ []

abbrev state1 : After-put_hex4 → State ℕ
state1 c = after (state0 c.before.before.before.before) c.put_hex4-at.result c.put_hex4-at.new.out

emits1 : (c : After-put_hex4) → Emits (whole c.before.before.before.before) (room c.before.before.before.before) (left1 c.before.before.before.before) (state1 c)
emits1 c = let t = c.before.before.before.before in emit (emits0 c.before.before) (hex4 t.args.address) (left1 t) refl c.put_hex4-at.ensures

abbrev left2 : Start → List ℕ
left2 t = []

abbrev state2 : After-put_u8 → State ℕ
state2 c = after (state1 c.before.before.before.before) c.put_u8-at.result c.put_u8-at.new.out

emits2 : (c : After-put_u8) → Emits (whole c.before.before.before.before.before.before.before.before) (room c.before.before.before.before.before.before.before.before) (left2 c.before.before.before.before.before.before.before.before) (state2 c)
emits2 c =
    let t = c.before.before.before.before.before.before.before.before in
    emit (emits1 c.before.before.before.before) (0x0A ∷ []) (left2 t) (sym (append-nil _)) c.put_u8-at.ensures

pub returns-then-out-lt5 : goal.returns-then-out-lt5
returns-then-out-lt5 c = too_short _ _ _ (address-length c.args.address) c.if-out-lt5.true

pub slice_bounds-put_u8-count : goal.slice_bounds-put_u8-count
slice_bounds-put_u8-count c = within (emits1 c.before.before.before)

pub slice_bounds-put_u8-start : goal.slice_bounds-put_u8-start
slice_bounds-put_u8-start c = within (emits1 c.before.before.before)

pub overflow_add-at-2 : goal.overflow_add-at-2
overflow_add-at-2 c = small (emits2 c.before.before.before) (omega arith)

pub returns : goal.returns
returns c = emitted (emits2 c.before.before.before) refl
