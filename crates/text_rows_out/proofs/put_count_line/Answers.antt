-- Two parts. Assumes nothing.
use native.Mathlib.Omega.{arith}
use mathlib.Core.Path.{refl, sym}
use mathlib.Core.List.{List, [], ◌∷◌, append-nil}
use Prim.Native.Nat.{ℕ}
use Rattle.writing.proofs.WriteLaws.{too_short}
use Rattle.writing.proofs.Parts.{State, Emits, after, begin, emit, emitted, within, small}
use Rattle.format.specs.TextWriter.{decimal, text_line}
use Rattle.text_rows_out.proofs.RowLaws.{line-length}
use Rattle.text_rows_out.proofs.put_count_line.Lts as lts
use Rattle.text_rows_out.proofs.put_count_line.Reads as reads
use Rattle.text_rows_out.proofs.put_count_line.Tie as tie
use Rattle.text_rows_out.proofs.put_count_line.Goals as goal

abbrev After-put_u8 : Type 0
After-put_u8 = lts.After-put_u8 tie.the-claims reads.Pre reads.Post

abbrev After-put_decimal : Type 0
After-put_decimal = lts.After-put_decimal tie.the-claims reads.Pre reads.Post

abbrev Else1 : Type 0
Else1 = lts.Else1 tie.the-claims reads.Pre reads.Post

abbrev Start : Type 0
Start = lts.Start tie.the-claims reads.Pre reads.Post

abbrev room : Start → List ℕ
room t = t.args.out.now

abbrev whole : Start → List ℕ
whole t = text_line (decimal t.args.count)

abbrev state0 : Start → State ℕ
state0 t = record { at = 0; out = room t }

emits0 : (c : Else1) → Emits (whole c.before.before.before) (room c.before.before.before) (whole c.before.before.before) (state0 c.before.before.before)
emits0 c = begin _ _ (omega (arith, line-length (decimal c.args.count), c.if-out-count_digits.false, c.count_digits.ensures))

abbrev left1 : Start → List ℕ
left1 t = 0x0A ∷ []

abbrev state1 : After-put_decimal → State ℕ
state1 c = after (state0 c.before.before.before.before.before) c.put_decimal-at.result c.put_decimal-at.new.out

emits1 : (c : After-put_decimal) → Emits (whole c.before.before.before.before.before) (room c.before.before.before.before.before) (left1 c.before.before.before.before.before) (state1 c)
emits1 c = let t = c.before.before.before.before.before in emit (emits0 c.before.before) (decimal t.args.count) (left1 t) refl c.put_decimal-at.ensures

abbrev left2 : Start → List ℕ
left2 t = []

abbrev state2 : After-put_u8 → State ℕ
state2 c = after (state1 c.before.before.before.before) c.put_u8-at.result c.put_u8-at.new.out

emits2 : (c : After-put_u8) → Emits (whole c.before.before.before.before.before.before.before.before.before) (room c.before.before.before.before.before.before.before.before.before) (left2 c.before.before.before.before.before.before.before.before.before) (state2 c)
emits2 c =
    let t = c.before.before.before.before.before.before.before.before.before in
    emit (emits1 c.before.before.before.before) (0x0A ∷ []) (left2 t) (sym (append-nil _)) c.put_u8-at.ensures

pub returns-then-out-count_digits : goal.returns-then-out-count_digits
returns-then-out-count_digits c =
    too_short _ _ _ (line-length (decimal c.args.count))
    (omega (arith, c.if-out-count_digits.true, c.count_digits.ensures))

pub slice_bounds-put_u8-count : goal.slice_bounds-put_u8-count
slice_bounds-put_u8-count c = within (emits1 c.before.before.before)

pub slice_bounds-put_u8-start : goal.slice_bounds-put_u8-start
slice_bounds-put_u8-start c = within (emits1 c.before.before.before)

pub overflow_add-at-2 : goal.overflow_add-at-2
overflow_add-at-2 c = small (emits2 c.before.before.before) (omega arith)

pub returns : goal.returns
returns c = emitted (emits2 c.before.before.before) refl
