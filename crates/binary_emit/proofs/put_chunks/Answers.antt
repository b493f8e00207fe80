-- A chunk a turn: the bytes held over and the chunks that are left are what is left to emit. Assumes nothing.
use mathlib.Core.Path.{◌≡◌, refl, sym, ap, subst, ◌∙◌}
use mathlib.Core.List.{List, [], ◌∷◌, ◌++◌, flat_map}
use Prim.Native.Nat.{ℕ, ◌+◌, ◌-◌}
use native.Mathlib.Omega.{arith}
use lib.ListN.{length, take, drop}
use Rattle.format.specs.Words.{text_words}
use Rattle.format.specs.Binary.{bytes_at}
use Rattle.writing.proofs.Parts.{Emits, after, begin, emit, emitted, within, same}
use Rattle.gather.specs.Places.{places_from, places_of}
use Rattle.gather.proofs.OrderLaws.{found-next, found_none, found_moves}
use Rattle.binary_words.specs.RecordAt.{chunk_at}
use Rattle.binary_emit.specs.Chunks.{chunks_of, whole_bytes, whole_words}
use Rattle.record_words.proofs.RecordLaws.{room_for_lem}
use Rattle.binary_emit.proofs.ChunkLaws.{chunk_next, chunk_last, chunks_first, chunks_over}
use Rattle.binary_emit.proofs.put_chunks.Goals as goal
use Rattle.binary_emit.proofs.put_chunks.Goals.{After-put_chunk-c, After-put_text_words-at}

-- what is held over after a chunk
abbrev over : List ℕ → List ℕ
over bytes = drop (whole_bytes bytes) bytes

abbrev others : List ℕ → ℕ → List ℕ
others s next = flat_map (chunk_at s) (places_from 3 s next)

-- the words of this chunk, and what is left after it
next : (s held chunk : List ℕ) (n place p q : ℕ) → places_from 3 s place ≡ p ∷ places_from 3 s q → chunk ≡ chunk_at s p
    → text_words (take n held ++ flat_map (chunk_at s) (places_from 3 s place))
    ≡ whole_words (take n held ++ chunk) ++ text_words (over (take n held ++ chunk) ++ others s q)
next s held chunk n place p q f e =
    chunk_next (take n held) chunk (others s q) (flat_map (chunk_at s) (places_from 3 s place))
    (chunks_first s place p q f ∙ ap (λ (z : List ℕ). z ++ others s q) (sym e))

emits : (c : After-put_chunk-c) →
    Emits (text_words (chunks_of c.args.s.now)) c.args.out.now
    (text_words (over (take c.loop-p.n c.loop-p.held ++ c.bytes_at-chunk.result.now) ++ others c.args.s.now c.in-Some.next))
    (after (record { at = c.loop-p.at; out = c.loop-p.out }) c.put_chunk-c.result.at c.put_chunk-c.new.out)
emits c =
    let s = c.args.s.now in
    let l = c.loop-p in
    emit l.invariant.2 _ _
    (next s l.held c.bytes_at-chunk.result.now l.n l.place c.in-Some.p c.in-Some.next
    (found-next 3 s l.place c.next_place.result c.next_place.ensures.0 (c.in-Some.p, c.in-Some.next) c.in-Some.is)
    (c.bytes_at-chunk.ensures ∙ ap (λ (j : ℕ). bytes_at (c.in-Some.p + 9) j s) c.u64_at.ensures))
    c.put_chunk-c.ensures.put

-- the bytes held over at the end
emits_last : (c : After-put_text_words-at) →
    let l = c.loop-p in
    Emits (text_words (chunks_of c.args.s.now)) c.args.out.now []
    (after (record { at = l.at; out = l.out }) c.put_text_words-at.result c.put_text_words-at.new.out)
emits_last c =
    let l = c.loop-p in
    let s = c.args.s.now in
    let f = found_none 3 s l.place c.next_place.result c.next_place.ensures.0
    c.in_default.is in
    emit l.invariant.2 (text_words (take (l.n - 0) (drop 0 l.held))) []
    (chunk_last l.held (flat_map (chunk_at s) (places_from 3 s l.place)) l.n (chunks_over s l.place f))
    c.put_text_words-at.ensures

pub loop-p-init : goal.loop-p-init
unfolding places_of
loop-p-init c = (omega arith, c.requires.0, begin _ _ c.requires.1)

pub loop-p-preserved : goal.loop-p-preserved
loop-p-preserved c = (
  c.put_chunk-c.ensures.few,
  c.put_chunk-c.auto.held ∙ c.loop-p.invariant.1,
  subst (λ (z : List ℕ). Emits (text_words (chunks_of c.args.s.now)) c.args.out.now
      (text_words (z ++ others c.args.s.now c.in-Some.next))
      (after (record { at = c.loop-p.at; out = c.loop-p.out }) c.put_chunk-c.result.at c.put_chunk-c.new.out))
      (sym c.put_chunk-c.ensures.over) (emits (goal.at.loop-p-preserved c).After-put_chunk-c),
)

pub loop-p-smaller : goal.loop-p-smaller
loop-p-smaller c =
    omega (
      arith,
      found_moves c.loop-p.place (length c.args.s.now) (c.in-Some.p, c.in-Some.next) c.next_place.result
          c.next_place.ensures.1 c.in-Some.is,
    )

pub put_chunk-c-requires : goal.put_chunk-c-requires
put_chunk-c-requires c =
    let s = c.args.s.now in
    let l = c.loop-p in (
      l.invariant.1,
      l.invariant.0,
      room_for_lem l.invariant.2 _ _
          (next s l.held c.bytes_at-chunk.result.now l.n l.place c.in-Some.p c.in-Some.next
          (found-next 3 s l.place c.next_place.result c.next_place.ensures.0 (c.in-Some.p, c.in-Some.next) c.in-Some.is)
          (c.bytes_at-chunk.ensures ∙ ap (λ (j : ℕ). bytes_at (c.in-Some.p + 9) j s) c.u64_at.ensures)),
    )

pub offset_bounds-out-at-2 : goal.offset_bounds-out-at-2
offset_bounds-out-at-2 c = let e = c.loop-p.invariant.2 in omega (arith, within e, same e)

pub slice_bounds-put_text_words-count : goal.slice_bounds-put_text_words-count
slice_bounds-put_text_words-count c = within c.loop-p.invariant.2

pub slice_bounds-put_text_words-start : goal.slice_bounds-put_text_words-start
slice_bounds-put_text_words-start c = within c.loop-p.invariant.2

pub put_text_words-at-requires : goal.put_text_words-at-requires
put_text_words-at-requires c = let l = c.loop-p in omega (arith, l.invariant.0, l.invariant.1)

pub overflow_add-at-2 : goal.overflow_add-at-2
overflow_add-at-2 c = let e = emits_last (goal.at.overflow_add-at-2 c).After-put_text_words-at in omega (arith, within e, same e)

pub shape_of-out : goal.shape_of-out
shape_of-out c = same (emits_last (goal.at.shape_of-out c).After-put_text_words-at)

pub shape_of-held : goal.shape_of-held
shape_of-held c = c.loop-p.invariant.1 ∙ sym c.requires.0

pub returns : goal.returns
returns c = emitted (emits_last (goal.at.returns c).After-put_text_words-at) refl

pub offset_bounds-out-at : goal.offset_bounds-out-at
offset_bounds-out-at c = let e = c.loop-p.invariant.2 in omega (arith, within e, same e)

pub slice_bounds-put_chunk-count : goal.slice_bounds-put_chunk-count
slice_bounds-put_chunk-count c = within c.loop-p.invariant.2

pub slice_bounds-put_chunk-start : goal.slice_bounds-put_chunk-start
slice_bounds-put_chunk-start c = within c.loop-p.invariant.2

pub overflow_add-at : goal.overflow_add-at
overflow_add-at c = let e = emits (goal.at.overflow_add-at c).After-put_chunk-c in omega (arith, within e, same e)
