-- Words, and the bytes past them. Assumes nothing.
use native.Mathlib.Omega.{arith}
use mathlib.Core.Path.{refl, sym}
use mathlib.Core.List.{List, [], append-nil}
use Prim.Native.Nat.{ℕ, ◌*◌}
use Rattle.writing.proofs.Parts.{State, Emits, after, begun, emit, emitted, within, small}
use Rattle.object.specs.Texts.{span_bytes}
use Rattle.object.proofs.SpanLaws.{span-length, span_split, span-room}
use Rattle.object.proofs.put_to_end.Lts as lts
use Rattle.object.proofs.put_to_end.Reads as reads
use Rattle.object.proofs.put_to_end.Tie as tie
use Rattle.object.proofs.put_to_end.Goals as goal

abbrev After-put_each : Type 0
After-put_each = lts.After-put_each tie.the-claims reads.Pre reads.Post

abbrev After-put_words : Type 0
After-put_words = lts.After-put_words tie.the-claims reads.Pre reads.Post

abbrev whole : (c : After-put_words) → List ℕ
whole c = span_bytes c.args.ws.now c.args.at (3 * c.args.first) c.args.end

abbrev others : (c : After-put_words) → List ℕ
others c = span_bytes c.args.ws.now c.args.at (3 * c.args.last) c.args.end

abbrev state1 : (c : After-put_words) → State ℕ
state1 c = record { at = c.put_words-n.result; out = c.put_words-n.new.out }

emits1 : (c : After-put_words) → Emits (whole c) c.args.out.now (others c) (state1 c)
emits1 c =
    let a = c.args in
    begun (span_bytes a.ws.now a.at (3 * a.first) (3 * a.last)) (others c)
    (span_split a.ws.now a.at (3 * a.first) (3 * a.last) a.end (omega (arith, c.requires.0)) c.requires.1)
    (omega (arith, span-length a.ws.now a.at (3 * a.first) a.end, c.requires.3)) c.put_words-n.ensures

emits2 : (c : After-put_each)
    → Emits (whole c.before.before.before.before) c.args.out.now [] (after (state1 c.before.before.before.before) c.put_each.result c.put_each.new.out)
emits2 c = emit (emits1 c.before.before.before.before) _ [] (sym (append-nil _)) c.put_each.ensures

pub put_each-requires : goal.put_each-requires
put_each-requires c =
    let a = c.args in
    span-room (emits1 c.before.before.before.before) a.ws.now a.at (3 * a.last) a.end [] (sym (append-nil _))

pub slice_bounds-put_each-count : goal.slice_bounds-put_each-count
slice_bounds-put_each-count c = within (emits1 c.before.before.before)

pub slice_bounds-put_each-start : goal.slice_bounds-put_each-start
slice_bounds-put_each-start c = within (emits1 c.before.before.before)

pub overflow_add-result : goal.overflow_add-result
overflow_add-result c = small (emits2 c.before.before.before) (omega arith)

pub returns : goal.returns
returns c = emitted (emits2 c.before.before.before) refl
