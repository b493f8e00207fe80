-- The bytes of the records that are left are what is left to emit. Assumes nothing.
use native.Mathlib.Omega.{arith}
use mathlib.Core.Path.{◌≡◌, ap}
use mathlib.Core.List.{List, ◌++◌, flat_map}
use Prim.Native.Nat.{ℕ, ◌+◌}
use lib.ListN.{length}
use Rattle.format.specs.Binary.{record_bytes}
use Rattle.object.specs.Bodies.{body_at}
use Rattle.object.specs.Access.{record_at}
use Rattle.writing.proofs.Parts.{Emits, after, begin, emit, emitted, within, small, same}
use Rattle.binary_measure.specs.Measured.{records_in, bytes_in}
use Rattle.binary_write.proofs.RoomLaws.{lent_part}
use Rattle.binary_measure.proofs.WalkLaws.{Turn, start, turn, record_begins, no_more}
use Rattle.binary_write.proofs.put_records.Lts as lts
use Rattle.binary_write.proofs.put_records.Reads as reads
use Rattle.binary_write.proofs.put_records.Tie as tie
use Rattle.binary_write.proofs.put_records.Goals as goal

abbrev After-put_record : Type 0
After-put_record = lts.After-put_record tie.the-claims reads.Pre reads.Post goal.the-invariant-loop-at goal.the-decreases-loop-at

abbrev After-record_end : Type 0
After-record_end = lts.After-record_end tie.the-claims reads.Pre reads.Post goal.the-invariant-loop-at goal.the-decreases-loop-at

abbrev ws : (c : After-record_end) → List ℕ
ws c = c.args.object.now

ends : (c : After-record_end) → c.record_end-end.result ≡ c.loop-at.at + 1 + length (body_at (ws c) (c.loop-at.at + 1))
ends c = c.record_end-end.ensures (record_begins _ _ _ c.loop-at-test.true c.loop-at.invariant.1)

here : (c : After-record_end) → Turn (ws c) c.loop-at.at c.record_end-end.result c.loop-at.invariant.0
here c = turn _ _ _ _ c.loop-at-test.true (ends c) c.loop-at.invariant.1

abbrev part : (c : After-record_end) → List ℕ
part c = record_bytes (record_at (ws c) c.loop-at.at)

splits : (c : After-record_end) → flat_map record_bytes c.loop-at.invariant.0 ≡ (part c) ++ flat_map record_bytes (here c).rest
unfolding flat_map
splits c = ap (λ rs. flat_map record_bytes rs) (here c).all

emits : (c : After-put_record) →
    Emits (bytes_in (ws c.before.before)) c.args.out.now (flat_map record_bytes (here c.before.before).rest)
    (after (record { at = c.loop-at.o; out = c.loop-at.out }) c.put_record-o.result c.put_record-o.new.out)
emits c = emit c.loop-at.invariant.2 _ _ (splits c.before.before) c.put_record-o.ensures

pub loop-at-init : goal.loop-at-init
loop-at-init c =
    (records_in c.args.object.now, start c.args.object.now c.requires.0, begin _ _ c.requires.1)

pub put_record-o-requires : goal.put_record-o-requires
put_record-o-requires c =
    ((here c.before.before).stands, lent_part c.loop-at.invariant.2 (part c.before.before) _ (splits c.before.before))

pub overflow_add-o : goal.overflow_add-o
overflow_add-o c = small (emits c.before.before.before) c.well_formed.0.0

pub loop-at-smaller : goal.loop-at-smaller
loop-at-smaller c =
    omega (arith, ends c.before.before.before.before.before, c.loop-at-test.true)

pub loop-at-preserved : goal.loop-at-preserved
loop-at-preserved c = ((here c.before.before.before.before.before).rest, (here c.before.before.before.before.before).left, emits c.before.before.before)

pub shape_of-out : goal.shape_of-out
shape_of-out c = same c.loop-at.invariant.2

pub returns : goal.returns
unfolding flat_map
returns c =
    let i = c.loop-at.invariant in
    emitted i.2 (ap (λ rs. flat_map record_bytes rs) (no_more _ _ i.0 c.loop-at-test.false i.1))

pub slice_bounds-put_record-count : goal.slice_bounds-put_record-count
slice_bounds-put_record-count c = within c.loop-at.invariant.2

pub slice_bounds-put_record-start : goal.slice_bounds-put_record-start
slice_bounds-put_record-start c = within c.loop-at.invariant.2
