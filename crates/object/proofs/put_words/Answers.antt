-- What is left of the words is what is left to emit, three bytes a word. Assumes nothing.
use mathlib.Core.Path.{◌≡◌, refl}
use mathlib.Core.List.{List, ◌∷◌}
use Prim.Native.Nat.{ℕ, ◌+◌, ◌*◌, ◌/◌, ◌%◌}
use native.Mathlib.Omega.{arith}
use lib.ListN.{get_or, set}
use Rattle.writing.proofs.Parts.{Emits, begin, emit_one, room-one, emitted}
use Rattle.object.specs.Texts.{span_bytes}
use Rattle.object.proofs.ByteLaws.{bytes-end}
use Rattle.object.proofs.SpanLaws.{span-length, word-here}
use Rattle.object.proofs.put_words.Goals as goal
use Rattle.object.proofs.put_words.Goals.{After-shared_slice_known-1}

abbrev words : (c : After-shared_slice_known-1) → List ℕ
words c = c.args.ws.now

abbrev k : (c : After-shared_slice_known-1) → ℕ
k c = c.loop-k.k

abbrev w : (c : After-shared_slice_known-1) → ℕ
w c = get_or (words c) (c.args.at + (k c)) 0

abbrev whole : (c : After-shared_slice_known-1) → List ℕ
whole c = span_bytes (words c) c.args.at (3 * c.args.first) (3 * c.args.last)

abbrev left : (c : After-shared_slice_known-1) → List ℕ
left c = span_bytes (words c) c.args.at (3 * ((k c) + 1)) (3 * c.args.last)

here : (c : After-shared_slice_known-1) → span_bytes (words c) c.args.at (3 * (k c)) (3 * c.args.last) ≡ (w c) % 256 ∷ (w c) / 256 % 256 ∷ (w c) / 65536 % 256 ∷ (left c)
here c = word-here (words c) c.args.at (k c) (3 * c.args.last) (omega (arith, c.loop-k-test.true))

abbrev out1 : (c : After-shared_slice_known-1) → List ℕ
out1 c = set c.loop-k.out c.loop-k.n ((w c) % 256)

emits1 : (c : After-shared_slice_known-1) → Emits (whole c) c.args.out.now ((w c) / 256 % 256 ∷ (w c) / 65536 % 256 ∷ (left c)) (record { at = c.loop-k.n + 1; out = (out1 c) })
emits1 c = emit_one c.loop-k.invariant _ _ (here c)

abbrev out2 : (c : After-shared_slice_known-1) → List ℕ
out2 c = set (out1 c) (c.loop-k.n + 1) ((w c) / 256 % 256)

emits2 : (c : After-shared_slice_known-1) → Emits (whole c) c.args.out.now ((w c) / 65536 % 256 ∷ (left c)) (record { at = c.loop-k.n + 1 + 1; out = (out2 c) })
emits2 c = emit_one (emits1 c) _ _ refl

emits3 : (c : After-shared_slice_known-1) → Emits (whole c) c.args.out.now (left c)
    (record { at = c.loop-k.n + 1 + 1 + 1; out = set (out2 c) (c.loop-k.n + 1 + 1) ((w c) / 65536 % 256) })
emits3 c = emit_one (emits2 c) _ _ refl

pub loop-k-init : goal.loop-k-init
loop-k-init c =
    let a = c.args in
    begin (span_bytes a.ws.now a.at (3 * a.first) (3 * a.last)) a.out.now
    (omega (arith, c.requires.1, span-length a.ws.now a.at (3 * a.first) (3 * a.last)))

pub bounds-out-n : goal.bounds-out-n
bounds-out-n c = room-one c.loop-k.invariant _ _ (here c)

pub bounds-out-n-in-loop-k : goal.bounds-out-n-in-loop-k
bounds-out-n-in-loop-k c = room-one (emits1 c) _ _ refl

pub bounds-out-n-in-loop-k-2 : goal.bounds-out-n-in-loop-k-2
bounds-out-n-in-loop-k-2 c = room-one (emits2 c) _ _ refl

pub loop-k-preserved : goal.loop-k-preserved
loop-k-preserved c = emits3 c

pub returns : goal.returns
returns c = emitted c.loop-k.invariant (bytes-end _ _ _ _ (omega (arith, c.loop-k-test.false)))
