-- A record a turn: the words of the places that are left are what is left to emit. Assumes nothing.
use mathlib.Core.Path.{◌≡◌}
use mathlib.Core.List.{List, ◌++◌, flat_map}
use Prim.Native.Nat.{ℕ, ◌+◌}
use native.Mathlib.Omega.{arith}
use lib.ListN.{drop, get_or}
use Rattle.writing.proofs.Parts.{begin, emit, emitted, within, same}
use Rattle.gather.specs.Kinds.{byte_of}
use Rattle.binary_words.specs.RecordAt.{words_at}
use Rattle.record_words.proofs.RecordLaws.{room_for_lem, place-next, place-over}
use Rattle.binary_emit.proofs.put_places.Goals as goal
use Rattle.binary_emit.proofs.put_places.Goals.{In-loop-p}

-- the words of the next place, and those after it
abbrev part : In-loop-p → List ℕ
part c = words_at (byte_of c.args.kind) c.args.s.now (get_or c.args.places.now c.loop-p.p-index 0)

abbrev others : In-loop-p → List ℕ
others c = flat_map (words_at (byte_of c.args.kind) c.args.s.now) (drop (c.loop-p.p-index + 1) c.args.places.now)

next : (c : In-loop-p) → flat_map (words_at (byte_of c.args.kind) c.args.s.now) (drop c.loop-p.p-index c.args.places.now) ≡ part c ++ others c
next c = place-next (words_at (byte_of c.args.kind) c.args.s.now) c.args.places.now c.loop-p.p-index c.loop-p-test.true

pub loop-p-init : goal.loop-p-init
loop-p-init c = begin _ _ c.requires

pub loop-p-preserved : goal.loop-p-preserved
loop-p-preserved c =
    let w = (goal.at.loop-p-preserved c).In-loop-p in emit c.loop-p.invariant (part w) (others w) (next w) c.put_record-at.ensures

pub overflow_add-at : goal.overflow_add-at
overflow_add-at c =
    let w = (goal.at.overflow_add-at c).In-loop-p in
    let e = emit c.loop-p.invariant (part w) (others w) (next w) c.put_record-at.ensures in
    omega (arith, within e, same e)

pub returns : goal.returns
returns c =
    emitted c.loop-p.invariant
    (place-over (words_at (byte_of c.args.kind) c.args.s.now) c.args.places.now c.loop-p.p-index c.loop-p-test.false)

pub offset_bounds-out-at : goal.offset_bounds-out-at
offset_bounds-out-at c = let e = c.loop-p.invariant in omega (arith, within e, same e)

pub slice_bounds-put_record-count : goal.slice_bounds-put_record-count
slice_bounds-put_record-count c = within c.loop-p.invariant

pub slice_bounds-put_record-start : goal.slice_bounds-put_record-start
slice_bounds-put_record-start c = within c.loop-p.invariant

pub put_record-at-requires : goal.put_record-at-requires
put_record-at-requires c =
    let w = (goal.at.put_record-at-requires c).In-loop-p in room_for_lem c.loop-p.invariant (part w) (others w) (next w)

pub shape_of-out : goal.shape_of-out
shape_of-out c = same c.loop-p.invariant
