-- The three bytes held, the words of three after them, and the bytes that are over. Assumes nothing.
use mathlib.Core.Path.{◌≡◌, refl, sym, ap, ◌∙◌}
use mathlib.Core.List.{List, [], ◌++◌}
use Prim.Native.Nat.{ℕ, ◌+◌, ◌-◌, ◌*◌, ◌/◌, ◌≤◌}
use native.Mathlib.Nat.{zero-add}
use native.Mathlib.Omega.{arith}
use lib.ListN.{length, take, drop, length-append, length-take}
use lib.Seq.{take_all}
use borrow.Author.Rules.{part_to_end}
use borrow.Rule.Slice.PartMut.{mid_of}
use Rattle.format.specs.Words.{text_words}
use Rattle.writing.proofs.Parts.{Emits, after, emit, emitted, within, same}
use Rattle.binary_emit.specs.Chunks.{whole_words}
use Rattle.record_words.proofs.RecordLaws.{first}
use Rattle.binary_emit.proofs.ChunkLaws.{chunk_held, chunk_words, chunk_over, chunk_past}
use Rattle.binary_emit.proofs.put_chunk.Lts as lts
use Rattle.binary_emit.proofs.put_chunk.Reads as reads
use Rattle.binary_emit.proofs.put_chunk.Tie as tie
use Rattle.binary_emit.proofs.put_chunk.Goals as goal

abbrev After-put_source_words : Type 0
After-put_source_words = lts.After-put_source_words tie.the-claims reads.Pre reads.Post

abbrev After-put_text_words : Type 0
After-put_text_words = lts.After-put_text_words tie.the-claims reads.Pre reads.Post

abbrev After-top_up : Type 0
After-top_up = lts.After-top_up tie.the-claims reads.Pre reads.Post

abbrev Start : Type 0
Start = lts.Start tie.the-claims reads.Pre reads.Post

abbrev text : Start → List ℕ
text k = k.args.s.now

abbrev front : Start → List ℕ
front k = take k.args.n k.args.held.now

-- how many bytes of the chunk were moved, and what is held then
abbrev moved : After-top_up → ℕ
moved c = c.top_up-k.result

abbrev held : After-top_up → List ℕ
held c = c.top_up-k.new.held

abbrev size : After-top_up → ℕ
size c = (length (text c.before.before.before.before.before) - moved c) / 3 * 3

abbrev past : After-top_up → List ℕ
past c = drop (moved c) (text c.before.before.before.before.before)

within_text : (c : After-top_up) → moved c ≤ length (text c.before.before.before.before.before)
within_text c = omega (arith, c.top_up-k.ensures.0)

long : (c : After-top_up) → length (held c) ≡ 3
long c = c.top_up-k.auto.held ∙ c.requires.0

full : (c : After-top_up) → 3 ≤ c.args.n + moved c → held c ≡ front c.before.before.before.before.before ++ take (moved c) (text c.before.before.before.before.before)
full c h = sym (take_all (c.args.n + moved c) (held c) (omega (arith, long c))) ∙ c.top_up-k.ensures.1

emits1 : (c : After-put_text_words) →
    Emits (whole_words (front c.before.before.before.before.before.before.before.before.before.before ++ text c.before.before.before.before.before.before.before.before.before.before)) c.args.out.now (text_words (take (size c.before.before.before.before.before) (past c.before.before.before.before.before)) ++ [])
    (record { at = c.put_text_words-at.result; out = c.put_text_words-at.new.out })
emits1 c =
    first (text_words (held c.before.before.before.before.before)) (text_words (take (size c.before.before.before.before.before) (past c.before.before.before.before.before)) ++ [])
    (chunk_words (front c.before.before.before.before.before.before.before.before.before.before) (text c.before.before.before.before.before.before.before.before.before.before) (held c.before.before.before.before.before) (moved c.before.before.before.before.before) (full c.before.before.before.before.before c.if-m-lt3.false) (long c.before.before.before.before.before) (within_text c.before.before.before.before.before))
    c.requires.2 c.put_text_words-at.ensures

emits2 : (c : After-put_source_words) →
    Emits (whole_words (front c.before.before.before.before.before.before.before.before.before.before.before.before.before.before.before ++ text c.before.before.before.before.before.before.before.before.before.before.before.before.before.before.before)) c.args.out.now []
    (after (record {
      at = c.put_text_words-at.result;
      out =
          c.put_text_words-at.new.out;
    }) c.put_source_words-at.result c.put_source_words-at.new.out)
emits2 c =
    let e : size c.before.before.before.before.before.before.before.before.before.before ≡ moved c.before.before.before.before.before.before.before.before.before.before + size c.before.before.before.before.before.before.before.before.before.before - moved c.before.before.before.before.before.before.before.before.before.before = omega arith in
    emit (emits1 c.before.before.before.before.before) (text_words (take (moved c.before.before.before.before.before.before.before.before.before.before + size c.before.before.before.before.before.before.before.before.before.before - moved c.before.before.before.before.before.before.before.before.before.before) (past c.before.before.before.before.before.before.before.before.before.before))) []
    (ap (λ (j : ℕ). text_words (take j (past c.before.before.before.before.before.before.before.before.before.before)) ++ []) e) c.put_source_words-at.ensures

pub returns-then-m-lt3 : goal.returns-then-m-lt3
returns-then-m-lt3 c =
    let e = c.top_up-k.ensures in
    let bytes = front c.before.before.before.before.before.before.before.before.before ++ text c.before.before.before.before.before.before.before.before.before in
    let m = c.args.n + moved c.before.before.before.before in
    let all : take (moved c.before.before.before.before) (text c.before.before.before.before.before.before.before.before.before) ≡ text c.before.before.before.before.before.before.before.before.before = take_all (moved c.before.before.before.before) (text c.before.before.before.before.before.before.before.before.before) (omega (arith, e.0, c.if-m-lt3.true)) in
    let l : length (front c.before.before.before.before.before.before.before.before.before) ≤ c.args.n = omega (arith, length-take c.args.n c.args.held.now) in
    chunk_held bytes c.args.out.now (held c.before.before.before.before) m (e.1 ∙ ap (λ (z : List ℕ). front c.before.before.before.before.before.before.before.before.before ++ z) all)
    (omega (arith, e.0, c.if-m-lt3.true, length-append (front c.before.before.before.before.before.before.before.before.before) (text c.before.before.before.before.before.before.before.before.before))) c.if-m-lt3.true

pub returns : goal.returns
returns c =
    let s = text c.before.before.before.before.before.before.before.before.before.before.before.before.before.before.before.before.before.before.before.before.before.before.before in
    let t = c.top_up-c in
    let e = moved c.before.before.before.before.before.before.before.before.before.before.before.before.before.before.before.before.before.before + size c.before.before.before.before.before.before.before.before.before.before.before.before.before.before.before.before.before.before in
    let rest = mid_of e (length s - e) s in
    let three = full c.before.before.before.before.before.before.before.before.before.before.before.before.before.before.before.before.before.before
    c.if-m-lt3.false
    in
    let l : length rest ≡ length (drop e s) = ap length (part_to_end s e) in
    let few = chunk_past (front c.before.before.before.before.before.before.before.before.before.before.before.before.before.before.before.before.before.before.before.before.before.before.before) s (held c.before.before.before.before.before.before.before.before.before.before.before.before.before.before.before.before.before.before) (moved c.before.before.before.before.before.before.before.before.before.before.before.before.before.before.before.before.before.before) three (long c.before.before.before.before.before.before.before.before.before.before.before.before.before.before.before.before.before.before) (within_text c.before.before.before.before.before.before.before.before.before.before.before.before.before.before.before.before.before.before) in
    record {
      put = emitted (emits2 c.before.before.before.before.before.before.before.before) refl;
      over =
          ap (λ (j : ℕ). take j t.new.held) (sym (zero-add t.result)) ∙ t.ensures.1
          ∙ take_all t.result rest (omega (arith, t.ensures.0)) ∙ part_to_end s e
          ∙ sym (chunk_over (front c.before.before.before.before.before.before.before.before.before.before.before.before.before.before.before.before.before.before.before.before.before.before.before) s (held c.before.before.before.before.before.before.before.before.before.before.before.before.before.before.before.before.before.before) (moved c.before.before.before.before.before.before.before.before.before.before.before.before.before.before.before.before.before.before) three (long c.before.before.before.before.before.before.before.before.before.before.before.before.before.before.before.before.before.before) (within_text c.before.before.before.before.before.before.before.before.before.before.before.before.before.before.before.before.before.before));
      few = omega (arith, t.ensures.0);
    }

pub top_up-k-requires : goal.top_up-k-requires
top_up-k-requires c = (c.requires.0, omega (arith, c.requires.1))

pub overflow_sub-e : goal.overflow_sub-e
overflow_sub-e c = within_text c.before.before.before.before.before.before.before.before

pub offset_bounds-out-at : goal.offset_bounds-out-at
offset_bounds-out-at c = let e = emits1 c.before.before.before in omega (arith, within e, same e)

pub slice_bounds-put_source_words-count : goal.slice_bounds-put_source_words-count
slice_bounds-put_source_words-count c = within (emits1 c.before.before.before)

pub slice_bounds-put_source_words-start : goal.slice_bounds-put_source_words-start
slice_bounds-put_source_words-start c = within (emits1 c.before.before.before)

pub overflow_add-at : goal.overflow_add-at
overflow_add-at c = let e = emits2 c.before.before.before in omega (arith, within e, same e)

pub shape_of-out : goal.shape_of-out
shape_of-out c = same (emits2 c.before.before.before.before.before.before.before.before)
