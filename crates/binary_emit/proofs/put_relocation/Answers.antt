-- Part by part, into the rest of the room. Assumes nothing.
use mathlib.Core.Path.{refl}
use mathlib.Core.List.{List, [], ◌∷◌, ◌++◌}
use Prim.Native.Nat.{ℕ}
use native.Mathlib.Omega.{arith}
use Rattle.format.specs.Words.{text_words}
use Rattle.writing.proofs.Parts.{State, Emits, after, emit, emitted, within, same}
use Rattle.binary_words.specs.RecordAt.{words_at}
use Rattle.record_words.proofs.RecordLaws.{first, relocation-parts}
use Rattle.binary_emit.proofs.put_relocation.Lts as lts
use Rattle.binary_emit.proofs.put_relocation.Reads as reads
use Rattle.binary_emit.proofs.put_relocation.Tie as tie
use Rattle.binary_emit.proofs.put_relocation.Goals as goal

abbrev After-put_text_words : Type 0
After-put_text_words = lts.After-put_text_words tie.the-claims reads.Pre reads.Post

abbrev After-put_word : Type 0
After-put_word = lts.After-put_word tie.the-claims reads.Pre reads.Post

abbrev Start : Type 0
Start = lts.Start tie.the-claims reads.Pre reads.Post

abbrev bytes : Start → List ℕ
bytes k = k.args.s.now

-- what is left to emit of the record, in a state
abbrev Leaves : Start → List ℕ → State ℕ → Type 0
Leaves k left s = Emits (words_at 4 (bytes k) k.args.p) k.args.out.now left s

abbrev body : After-put_word → List ℕ
body c = c.bytes_at-body.result.now

abbrev left1 : After-put_word → List ℕ
left1 c = text_words (body c) ++ []

abbrev state1 : After-put_word → State ℕ
state1 c = record { at = c.put_word-at.result; out = c.put_word-at.new.out }

emits1 : (c : After-put_word) → Leaves c.before.before.before.before.before.before.before (left1 c) (state1 c)
emits1 c =
    let q = c.bytes_at-body in
    first (_ ∷ []) (left1 c)
    (relocation-parts (bytes c.before.before.before.before.before.before.before) c.args.p (body c) c.relocation_head.result
    c.u64_at.result
    c.relocation_head.ensures c.u64_at.ensures q.ensures)
    c.requires c.put_word-at.ensures

abbrev state2 : After-put_text_words → State ℕ
state2 c = after (state1 c.before.before.before.before) c.put_text_words-at.result c.put_text_words-at.new.out

emits2 : (c : After-put_text_words) → Leaves c.before.before.before.before.before.before.before.before.before.before.before [] (state2 c)
emits2 c =
    emit (emits1 c.before.before.before.before) (text_words (body c.before.before.before.before)) [] refl
    c.put_text_words-at.ensures

pub offset_bounds-out-at : goal.offset_bounds-out-at
offset_bounds-out-at c = let e = emits1 c.before.before.before in omega (arith, within e, same e)

pub slice_bounds-put_text_words-count : goal.slice_bounds-put_text_words-count
slice_bounds-put_text_words-count c = within (emits1 c.before.before.before)

pub slice_bounds-put_text_words-start : goal.slice_bounds-put_text_words-start
slice_bounds-put_text_words-start c = within (emits1 c.before.before.before)

pub overflow_add-at : goal.overflow_add-at
overflow_add-at c = let e = emits2 c.before.before.before in omega (arith, within e, same e)

pub shape_of-out : goal.shape_of-out
shape_of-out c = same (emits2 c.before.before.before)

pub returns : goal.returns
returns c = emitted (emits2 c.before.before.before) refl
