-- Its first word, then its text; nothing where it does not exist. Assumes nothing.
use mathlib.Core.Path.{refl, sym, ◌∙◌}
use mathlib.Core.List.{List, [], ◌∷◌, ◌++◌}
use Prim.Native.Nat.{ℕ}
use native.Mathlib.Omega.{arith}
use borrow.Author.Tests.{not-true, not-false}
use Rattle.format.specs.Words.{text_words}
use Rattle.writing.proofs.Parts.{Emits, after, emit, emitted, within, same}
use Rattle.binary_emit.specs.Chunks.{chunks_of}
use Rattle.binary_sizes.specs.ObjectWords.{source_words}
use Rattle.record_words.proofs.RecordLaws.{first, room_for_lem, put-nothing}
use Rattle.binary_emit.proofs.ChunkLaws.{source-parts, source-nothing}
use mathlib.Core.Path.{ap}
use mathlib.Core.Bool.{not}
use Rattle.binary_emit.proofs.put_source.Lts as lts
use Rattle.binary_emit.proofs.put_source.Reads as reads
use Rattle.binary_emit.proofs.put_source.Tie as tie
use Rattle.binary_emit.proofs.put_source.Goals as goal

abbrev After-put_chunks : Type 0
After-put_chunks = lts.After-put_chunks tie.the-claims reads.Pre reads.Post

abbrev After-put_word : Type 0
After-put_word = lts.After-put_word tie.the-claims reads.Pre reads.Post

abbrev Start : Type 0
Start = lts.Start tie.the-claims reads.Pre reads.Post

abbrev text : Start → List ℕ
text k = text_words (chunks_of k.args.s.now)

emits1 : (c : After-put_word) →
    Emits (source_words c.args.s.now) c.args.out.now (text c.before.before.before.before.before.before ++ [])
    (record { at = c.put_word-at.result; out = c.put_word-at.new.out })
emits1 c =
    let h = c.has_source in
    first (0x8000_0000 ∷ []) (text c.before.before.before.before.before.before ++ [])
    (source-parts c.args.s.now (sym h.ensures ∙ not-false h.result (ap not c.if-not-has_source.false))) c.requires
    c.put_word-at.ensures

emits2 : (c : After-put_chunks) →
    Emits (source_words c.args.s.now) c.args.out.now []
    (after (record {
      at = c.put_word-at.result;
      out = c.put_word-at.new.out;
    }) c.put_chunks-at.result c.put_chunks-at.new.out)
emits2 c =
    emit (emits1 c.before.before.before.before.before)
    (text c.before.before.before.before.before.before.before.before.before.before.before) [] refl c.put_chunks-at.ensures

pub returns-then-not-has_source : goal.returns-then-not-has_source
returns-then-not-has_source c =
    put-nothing (source_words c.args.s.now) c.args.out.now
    (source-nothing c.args.s.now (sym c.has_source.ensures ∙ not-true c.has_source.result (ap not c.if-not-has_source.true)))

pub offset_bounds-out-at : goal.offset_bounds-out-at
offset_bounds-out-at c = let e = emits1 c.before.before.before in omega (arith, within e, same e)

pub slice_bounds-put_chunks-count : goal.slice_bounds-put_chunks-count
slice_bounds-put_chunks-count c = within (emits1 c.before.before.before)

pub slice_bounds-put_chunks-start : goal.slice_bounds-put_chunks-start
slice_bounds-put_chunks-start c = within (emits1 c.before.before.before)

pub put_chunks-at-requires : goal.put_chunks-at-requires
put_chunks-at-requires c = (
  refl,
  room_for_lem (emits1 c.before.before.before.before.before)
      (text c.before.before.before.before.before.before.before.before.before.before.before) [] refl,
)

pub overflow_add-at : goal.overflow_add-at
overflow_add-at c = let e = emits2 c.before.before.before.before in omega (arith, within e, same e)

pub shape_of-out : goal.shape_of-out
shape_of-out c = same (emits2 c.before.before.before.before)

pub returns : goal.returns
returns c = emitted (emits2 c.before.before.before.before) refl
