-- What is left of the words is what is left to emit, three bytes a word and then the last word. Assumes nothing.
use mathlib.Core.Path.{◌≡◌, refl, ap, sym, subst, ◌∙◌}
use mathlib.Core.List.{List, [], ◌∷◌, ◌++◌, append-nil}
use Prim.Native.Nat.{ℕ, ◌+◌, ◌/◌, ◌%◌, ◌<◌, ◌-◌}
use native.Mathlib.Omega.{arith}
use lib.ListN.{length, drop, get_or, set}
use Rattle.format.specs.Digits.{digits_of}
use Rattle.object.specs.Bodies.{Text}
use Rattle.writing.specs.Written.{Put}
use Rattle.writing.proofs.WriteLaws.{stored}
use Rattle.writing.proofs.Parts.{Emits, begin, emit, emit_one, emitted, room-one, after, within, small, same}
use Rattle.binary_measure.specs.Measured.{text_of}
use Rattle.binary_measure.proofs.TextLaws.{text-here, text-last, no_words}
use Rattle.binary_write.proofs.RoomLaws.{lent_part}
use Rattle.binary_write.proofs.put_text.Lts as lts
use Rattle.binary_write.proofs.put_text.Reads as reads
use Rattle.binary_write.proofs.put_text.Tie as tie
use Rattle.binary_write.proofs.put_text.Goals as goal

abbrev After-put_last : Type 0
After-put_last = lts.After-put_last tie.the-claims reads.Pre reads.Post goal.the-invariant-loop-i goal.the-decreases-loop-i

abbrev After-shared_slice_known2 : Type 0
After-shared_slice_known2 = lts.After-shared_slice_known2 tie.the-claims reads.Pre reads.Post goal.the-invariant-loop-i goal.the-decreases-loop-i

abbrev After-loop : Type 0
After-loop = lts.After-loop tie.the-claims reads.Pre reads.Post goal.the-invariant-loop-i goal.the-decreases-loop-i

abbrev words : (c : After-shared_slice_known2) → List ℕ
words c = c.args.words.now

abbrev room : (c : After-shared_slice_known2) → List ℕ
room c = c.args.out.now

abbrev i : (c : After-shared_slice_known2) → ℕ
i c = c.loop-i.i

abbrev w : (c : After-shared_slice_known2) → ℕ
w c = get_or (words c) (i c) 0

abbrev left : (c : After-shared_slice_known2) → List ℕ
left c = text_of (drop ((i c) + 1) (words c))

abbrev bytes2 : (c : After-shared_slice_known2) → List ℕ
bytes2 c = (w c) / 256 / 256 % 256 ∷ (left c)

abbrev bytes1 : (c : After-shared_slice_known2) → List ℕ
bytes1 c = (w c) / 256 % 256 ∷ (bytes2 c)

follows : (c : After-shared_slice_known2) → (i c) + 1 < length (words c)
follows c = omega (arith, c.loop-i-test.true)

here : (c : After-shared_slice_known2) → text_of (drop (i c) (words c)) ≡ (w c) % 256 ∷ (bytes1 c)
unfolding digits_of
here c = (text-here (words c) (i c) (follows c) c.loop-i.invariant.1).0

abbrev out1 : (c : After-shared_slice_known2) → List ℕ
out1 c = set c.loop-i.out c.loop-i.at ((w c) % 256)

emits1 : (c : After-shared_slice_known2) → Emits (text_of (words c)) (room c) (bytes1 c) (record { at = c.loop-i.at + 1; out = (out1 c) })
emits1 c = emit_one c.loop-i.invariant.2 _ _ (here c)

abbrev out2 : (c : After-shared_slice_known2) → List ℕ
out2 c = set (out1 c) (c.loop-i.at + 1) ((w c) / 256 % 256)

emits2 : (c : After-shared_slice_known2) → Emits (text_of (words c)) (room c) (bytes2 c) (record { at = c.loop-i.at + 1 + 1; out = (out2 c) })
emits2 c = emit_one (emits1 c) _ _ refl

emits3 : (c : After-shared_slice_known2) → Emits (text_of (words c)) (room c) (left c)
    (record { at = c.loop-i.at + 1 + 1 + 1; out = set (out2 c) (c.loop-i.at + 1 + 1) ((w c) / 256 / 256 % 256) })
emits3 c = emit_one (emits2 c) _ _ refl

abbrev all : (c : After-loop) → List ℕ
all c = c.args.words.now

abbrev last : (c : After-loop) → ℕ
last c = length (all c) - 1

ends : (c : After-loop) → drop c.loop-i.i (all c) ≡ get_or (all c) (last c) 0 ∷ []
ends c =
    let e : c.loop-i.i ≡ (last c) = omega (arith, c.loop-i-test.false, c.loop-i.invariant.0) in
    ap (λ k. drop k (all c)) e ∙ text-last (all c) (last c) (omega (arith, c.loop-i.invariant.0))

left_is : (c : After-loop) → text_of (drop c.loop-i.i (all c)) ≡ text_of (get_or (all c) (last c) 0 ∷ []) ++ []
left_is c = ap text_of (ends c) ∙ sym (append-nil (text_of (get_or (all c) (last c) 0 ∷ [])))

emits_last : (c : After-put_last) →
    Emits (text_of (all c.before.before.before)) c.args.out.now []
    (after (record { at = c.loop-i.at; out = c.loop-i.out }) c.put_last-at.result c.put_last-at.new.out)
emits_last c = emit c.loop-i.invariant.2 _ [] (left_is c.before.before.before) c.put_last-at.ensures

pub returns-then-words-eq0 : goal.returns-then-words-eq0
returns-then-words-eq0 c =
    let a = c.args in
    subst (λ part. Put part a.out.now 0 a.out.now) (sym (no_words a.words.now c.if-words-eq0.true))
    (stored [] a.out.now 0 refl (omega arith))

pub loop-i-init : goal.loop-i-init
loop-i-init c = let p = c.requires in (omega (arith, c.if-words-eq0.false), p.0, begin _ _ p.1)

pub bounds-out-at : goal.bounds-out-at
bounds-out-at c = room-one c.loop-i.invariant.2 _ _ (here c.before)

pub overflow_add-at : goal.overflow_add-at
overflow_add-at c = small (emits1 c.before) c.well_formed.0.0

pub bounds-out-at-in-loop-i : goal.bounds-out-at-in-loop-i
bounds-out-at-in-loop-i c = room-one (emits1 c.before) _ _ refl

pub overflow_add-at-in-loop-i : goal.overflow_add-at-in-loop-i
overflow_add-at-in-loop-i c = small (emits2 c.before) c.well_formed.0.0

pub bounds-out-at-in-loop-i-2 : goal.bounds-out-at-in-loop-i-2
bounds-out-at-in-loop-i-2 c = room-one (emits2 c.before) _ _ refl

pub overflow_add-at-in-loop-i-2 : goal.overflow_add-at-in-loop-i-2
overflow_add-at-in-loop-i-2 c = small (emits3 c.before) c.well_formed.0.0

pub loop-i-preserved : goal.loop-i-preserved
loop-i-preserved c =
    (omega (arith, follows c.before), (text-here (words c.before) (i c.before) (follows c.before) c.loop-i.invariant.1).1, emits3 c.before)

pub put_last-at-requires : goal.put_last-at-requires
put_last-at-requires c =
    let last-text : List ℕ = text_of (get_or (all c.before.before.before) (last c.before.before.before) 0 ∷ []) in
    (subst Text (ends c.before.before.before) c.loop-i.invariant.1, lent_part c.loop-i.invariant.2 last-text [] (left_is c.before.before.before))

pub overflow_add-at-2 : goal.overflow_add-at-2
overflow_add-at-2 c = small (emits_last c.before.before.before) c.well_formed.0.0

pub shape_of-out : goal.shape_of-out
shape_of-out c = same (emits_last c.before.before.before)

pub returns : goal.returns
returns c = emitted (emits_last c.before.before.before) refl

pub slice_bounds-put_last-count : goal.slice_bounds-put_last-count
slice_bounds-put_last-count c = within c.loop-i.invariant.2

pub slice_bounds-put_last-start : goal.slice_bounds-put_last-start
slice_bounds-put_last-start c = within c.loop-i.invariant.2
