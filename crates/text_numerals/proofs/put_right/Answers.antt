-- Two parts, or the numeral alone where it fills the column. Assumes nothing.
use native.Mathlib.Omega.{arith}
use mathlib.Core.Path.{refl, sym, subst}
use mathlib.Core.List.{List, [], append-nil}
use Prim.Native.Nat.{ℕ, ◌-◌, ◌≤◌}
use lib.ListN.{length}
use Rattle.format.specs.TextWriter.{decimal, spaces, to_right}
use Rattle.writing.specs.Written.{Put}
use Rattle.writing.proofs.WriteLaws.{too_short}
use Rattle.writing.proofs.Parts.{State, Emits, rest, after, begin, emit, emitted, within, small}
use Rattle.text_numerals.proofs.DigitLaws.{right_length}
use Rattle.text_numerals.proofs.put_right.Lts as lts
use Rattle.text_numerals.proofs.put_right.Reads as reads
use Rattle.text_numerals.proofs.put_right.Tie as tie
use Rattle.text_numerals.proofs.put_right.Goals as goal

abbrev After-put_decimal2 : Type 0
After-put_decimal2 = lts.After-put_decimal2 tie.the-claims reads.Pre reads.Post

abbrev After-put_spaces : Type 0
After-put_spaces = lts.After-put_spaces tie.the-claims reads.Pre reads.Post

abbrev Else2 : Type 0
Else2 = lts.Else2 tie.the-claims reads.Pre reads.Post

abbrev Start : Type 0
Start = lts.Start tie.the-claims reads.Pre reads.Post

abbrev room : Start → List ℕ
room t = t.args.out.now

abbrev whole : Start → List ℕ
whole t = to_right t.args.width (decimal t.args.n)

abbrev state0 : Start → State ℕ
state0 t = record { at = 0; out = room t }

abbrev start0 : Else2 → Start
start0 c = c.before.before.before.before

emits0 : (c : Else2) → Emits (whole (start0 c)) (room (start0 c)) (whole (start0 c)) (state0 (start0 c))
emits0 c =
    let a = (start0 c).args in
    let h : length (decimal a.n) ≤ a.width = omega (arith, c.count_digits-len.ensures, c.if-width-len.false) in
    begin _ _ (omega (arith, right_length a.width (decimal a.n) h, c.if-out-width.false))

abbrev start1 : After-put_spaces → Start
start1 c = start0 c.before.before

abbrev state1 : After-put_spaces → State ℕ
state1 c = after (state0 (start1 c)) c.put_spaces-at.result c.put_spaces-at.new.out

emits1 : (c : After-put_spaces) → Emits (whole (start1 c)) (room (start1 c)) (decimal (start1 c).args.n) (state1 c)
emits1 c =
    let a = (start1 c).args in
    emit (emits0 c.before.before) (spaces (a.width - length (decimal a.n))) (decimal a.n) refl
    (subst (λ (k : ℕ). Put (spaces (a.width - k)) (rest (state0 (start1 c))) c.put_spaces-at.result c.put_spaces-at.new.out)
    c.count_digits-len.ensures c.put_spaces-at.ensures)

abbrev start2 : After-put_decimal2 → Start
start2 c = start1 c.before.before.before.before

abbrev state2 : After-put_decimal2 → State ℕ
state2 c = after (state1 c.before.before.before.before) c.put_decimal-at.result c.put_decimal-at.new.out

emits2 : (c : After-put_decimal2) → Emits (whole (start2 c)) (room (start2 c)) [] (state2 c)
emits2 c = emit (emits1 c.before.before.before.before) (decimal (start2 c).args.n) [] (sym (append-nil _)) c.put_decimal-at.ensures

pub returns-then-out-width : goal.returns-then-out-width
returns-then-out-width c =
    let a = c.args in
    let h : length (decimal a.n) ≤ a.width = omega (arith, c.count_digits-len.ensures, c.if-width-len.false) in
    too_short _ _ _ (right_length a.width (decimal a.n) h) c.if-out-width.true

pub slice_bounds-put_decimal-start : goal.slice_bounds-put_decimal-start
slice_bounds-put_decimal-start c = within (emits1 c.before.before.before)

pub overflow_add-at-2 : goal.overflow_add-at-2
overflow_add-at-2 c = small (emits2 c.before.before.before) (omega arith)

pub returns : goal.returns
returns c = emitted (emits2 c.before.before.before) refl

pub slice_bounds-put_decimal-count : goal.slice_bounds-put_decimal-count
slice_bounds-put_decimal-count c = within (emits1 c.before.before.before)
