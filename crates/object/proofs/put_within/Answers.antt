-- Bytes up to a word, and the rest from there on. Assumes nothing.
use native.Mathlib.Omega.{arith}
use mathlib.Core.Path.{refl, sym, subst}
use mathlib.Core.List.{List, [], append-nil}
use Prim.Native.Nat.{ℕ, ◌+◌, ◌*◌, ◌/◌, ◌%◌, ◌≤◌, ◌<◌}
use lib.ListN.{length}
use Rattle.writing.proofs.Parts.{State, Emits, after, begun, emit, emitted, within, small}
use Rattle.object.specs.Texts.{span_bytes}
use Rattle.object.proofs.SpanLaws.{span-length, span_split, span-room, whole-within, whole-there}
use Rattle.object.proofs.put_within.Lts as lts
use Rattle.object.proofs.put_within.Reads as reads
use Rattle.object.proofs.put_within.Tie as tie
use Rattle.object.proofs.put_within.Goals as goal

abbrev After-put_to_end : Type 0
After-put_to_end = lts.After-put_to_end tie.the-claims reads.Pre reads.Post

abbrev After-put_each2 : Type 0
After-put_each2 = lts.After-put_each2 tie.the-claims reads.Pre reads.Post

abbrev Else1 : Type 0
Else1 = lts.Else1 tie.the-claims reads.Pre reads.Post

abbrev ws : (c : Else1) → List ℕ
ws c = c.args.ws.now

abbrev at : (c : Else1) → ℕ
at c = c.args.at

abbrev start : (c : Else1) → ℕ
start c = c.args.start

abbrev end : (c : Else1) → ℕ
end c = c.args.end

abbrev first : (c : Else1) → ℕ
first c = (start c) / 3 + ((start c) % 3 + 2) / 3

abbrev last : (c : Else1) → ℕ
last c = c.whole_words-last.result

before-first : (c : Else1) → (start c) ≤ 3 * (first c)
before-first c = omega arith

to_end : (c : Else1) → 3 * (last c) ≤ (end c)
to_end c = omega (arith, whole-within (ws c) (at c) (end c), c.whole_words-last.ensures)

first-end : (c : Else1) → 3 * (first c) ≤ (end c)
first-end c = omega (arith, c.if-last-first.false, (to_end c))

there : (c : Else1) → (at c) + (last c) ≤ length (ws c)
there c =
    let e = c.whole_words-last.ensures in
    subst (λ n. (at c) + n ≤ length (ws c)) (sym e) (whole-there (ws c) (at c) (end c) (first c) (subst (λ n. (first c) < n) e c.if-last-first.false))

abbrev whole : (c : Else1) → List ℕ
whole c = span_bytes (ws c) (at c) (start c) (end c)

abbrev words : (c : Else1) → List ℕ
words c = span_bytes (ws c) (at c) (3 * (first c)) (end c)

abbrev room : (c : Else1) → List ℕ
room c = c.args.out.now

abbrev state1 : (c : After-put_each2) → State ℕ
state1 c = record { at = c.put_each-n.result; out = c.put_each-n.new.out }

emits1 : (c : After-put_each2) → Emits (whole c.before.before) (room c.before.before) (words c.before.before) (state1 c)
emits1 c =
    begun (span_bytes (ws c.before.before) (at c.before.before) (start c.before.before) (3 * first c.before.before)) (words c.before.before)
    (span_split (ws c.before.before) (at c.before.before) (start c.before.before) (3 * first c.before.before) (end c.before.before) (before-first c.before.before) (first-end c.before.before))
    (omega (arith, span-length (ws c.before.before) (at c.before.before) (start c.before.before) (end c.before.before), c.requires.1)) c.put_each-n.ensures

emits2 : (c : After-put_to_end)
    → Emits (whole c.before.before.before.before.before.before) (room c.before.before.before.before.before.before) [] (after (state1 c.before.before.before.before) c.put_to_end.result c.put_to_end.new.out)
emits2 c = emit (emits1 c.before.before.before.before) _ [] (sym (append-nil _)) c.put_to_end.ensures

pub put_to_end-requires : goal.put_to_end-requires
put_to_end-requires c =
    let d = c.before.before.before.before.before.before in
    (omega (arith, d.if-last-first.false), to_end d, there d, span-room (emits1 c.before.before.before.before) (ws d) (at d) (3 * first d) (end d) [] (sym (append-nil _)))

pub put_each-n-requires : goal.put_each-n-requires
put_each-n-requires c = omega (arith, first-end c.before.before, c.requires.1)

pub slice_bounds-put_to_end-count : goal.slice_bounds-put_to_end-count
slice_bounds-put_to_end-count c = within (emits1 c.before.before.before)

pub slice_bounds-put_to_end-start : goal.slice_bounds-put_to_end-start
slice_bounds-put_to_end-start c = within (emits1 c.before.before.before)

pub overflow_add-result : goal.overflow_add-result
overflow_add-result c = small (emits2 c.before.before.before) (omega arith)

pub returns : goal.returns
returns c = emitted (emits2 c.before.before.before) refl
