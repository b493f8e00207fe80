use mathlib.Core.Path.{◌≡◌, sym, ap, ◌∙◌}
use mathlib.Core.List.{List}
use Prim.Native.Nat.{ℕ, ◌+◌}
use native.Mathlib.Omega.{arith}
use lib.ListN.{length}
use Rattle.format.specs.Binary.{bytes_at}
use Rattle.gather.specs.Places.{places_from, places_of}
use Rattle.gather.proofs.OrderLaws.{found-next, found_none}
use Rattle.binary_words.specs.RecordAt.{chunk_at}
use Rattle.binary_words.proofs.SourceLaws.{chunks_length, chunks_cons, chunks_none, all_chunks_few}
use Rattle.binary_words.proofs.chunks_length.Goals as goal
use Rattle.binary_words.proofs.chunks_length.Goals.{After-bytes_at}

abbrev s : (c : After-bytes_at) → List ℕ
s c = c.args.s.now

abbrev p : (c : After-bytes_at) → ℕ
p c = c.in-Some.p

abbrev next : (c : After-bytes_at) → ℕ
next c = c.in-Some.next

adds : (c : After-bytes_at) → chunks_length (s c) (places_from 3 (s c) c.loop-p.at) ≡ length c.bytes_at.result.now + chunks_length (s c) (places_from 3 (s c) (next c))
adds c =
    let e = found-next 3 (s c) c.loop-p.at c.next_place.result c.next_place.ensures.0 (p c, next c) c.in-Some.is in
    let n : length c.bytes_at.result.now ≡ length (chunk_at (s c) (p c)) =
    ap length (c.bytes_at.ensures ∙ ap (λ (j : ℕ). bytes_at ((p c) + 9) j (s c)) c.u64_at.ensures) in
    ap (chunks_length (s c)) e ∙ chunks_cons (s c) (p c) (places_from 3 (s c) (next c)) ∙ ap (λ (j : ℕ). j + chunks_length (s c) (places_from 3 (s c) (next c))) (sym n)

pub loop-p-init : goal.loop-p-init
unfolding places_of
loop-p-init c = omega arith

pub returns : goal.returns
returns c =
    let l = c.loop-p in
    let s = c.args.s.now in
    let t = ap (chunks_length s) (found_none 3 s l.at c.next_place.result c.next_place.ensures.0 c.in_default.is) ∙ chunks_none s in
    (omega (arith, l.invariant), omega (arith, l.invariant, all_chunks_few s))

pub overflow_add-sum : goal.overflow_add-sum
overflow_add-sum c = omega (arith, adds c, c.loop-p.invariant, all_chunks_few (s c))

pub loop-p-preserved : goal.loop-p-preserved
loop-p-preserved c = omega (arith, adds c, c.loop-p.invariant)
