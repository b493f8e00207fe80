-- What it begins with, and its list or text. Assumes nothing.
use borrow.Author.Rules.{rules}
use native.Mathlib.Omega.{arith}
use mathlib.Core.Path.{refl, sym}
use mathlib.Core.List.{List, [], append-nil}
use Prim.Native.Nat.{ℕ, ◌-◌, ◌≤◌}
use lib.ListN.{length}
use borrow.Rule.Slice.PartMut.{mid_of}
use Rattle.format.specs.Binary.{record_bytes}
use Rattle.object.specs.Access.{record_at}
use Rattle.object.specs.Bodies.{kind_number}
use Rattle.writing.proofs.Parts.{State, Emits, after, begin, emit, emitted, within, small, same}
use Rattle.binary_write.specs.Files.{start_bytes, content_of}
use Rattle.binary_write.proofs.RoomLaws.{lent_part}
use Rattle.binary_write.proofs.StartLaws.{Parted, parted}
use Rattle.binary_write.proofs.put_record.Lts as lts
use Rattle.binary_write.proofs.put_record.Reads as reads
use Rattle.binary_write.proofs.put_record.Tie as tie
use Rattle.binary_write.proofs.put_record.Goals as goal

abbrev After-put_content : Type 0
After-put_content = lts.After-put_content tie.the-claims reads.Pre reads.Post

abbrev After-put_content-arg : Type 0
After-put_content-arg = lts.After-put_content-arg tie.the-claims reads.Pre reads.Post

abbrev After-put_start : Type 0
After-put_start = lts.After-put_start tie.the-claims reads.Pre reads.Post

abbrev After-content_at : Type 0
After-content_at = lts.After-content_at tie.the-claims reads.Pre reads.Post

abbrev ws : (c : After-content_at) → List ℕ
ws c = c.args.ws.now

abbrev room : (c : After-content_at) → List ℕ
room c = c.args.out.now

abbrev end : (c : After-content_at) → ℕ
end c = c.args.end

abbrev from : (c : After-content_at) → ℕ
from c = c.content_at-from.result

abbrev whole : (c : After-content_at) → List ℕ
whole c = record_bytes (record_at (ws c) c.args.at)

abbrev content : (c : After-content_at) → List ℕ
content c = content_of (kind_number c.of-kind.result) (mid_of (from c) ((end c) - (from c)) (ws c))

here : (c : After-content_at) → Parted (ws c) c.args.at (end c) (kind_number c.of-kind.result) (from c)
here c = parted (ws c) c.args.at (end c) c.requires.0 _ _ c.of-kind.ensures c.content_at-from.ensures

first : (c : After-content_at) → (from c) ≤ (end c)
first c = omega (arith, (here c).ends.0)

last : (c : After-content_at) → (end c) ≤ length (ws c)
last c = (here c).ends.1

abbrev state1 : After-put_start → State ℕ
state1 c = after (record { at = 0; out = room c.before.before }) c.put_start-o.result c.put_start-o.new.out

emits1 : (c : After-put_start) → Emits (whole c.before.before) (room c.before.before) (content c.before.before) (state1 c)
emits1 c = emit (begin _ _ c.requires.1) (start_bytes (record_at (ws c.before.before) c.args.at)) _ (here c.before.before).splits
    c.put_start-o.ensures

emits2 : (c : After-put_content)
    → Emits (whole c.before.before.before.before.before.before.before) (room c.before.before.before.before.before.before.before) [] (after (state1 c.before.before.before.before.before) c.put_content-o.result c.put_content-o.new.out)
emits2 c = emit (emits1 c.before.before.before.before.before) _ [] (sym (append-nil _)) c.put_content-o.ensures

-- the words lent
bounds : (c : After-put_content-arg) → (from c.before.before.before.before.before ≤ end c.before.before.before.before.before) × (end c.before.before.before.before.before ≤ length (ws c.before.before.before.before.before))
bounds c = (first c.before.before.before.before.before, last c.before.before.before.before.before)

pub offset_bounds-ws-from : goal.offset_bounds-ws-from
offset_bounds-ws-from c = let h = (bounds c.before).0 in let l = (bounds c.before).1 in search rules

pub slice_bounds-put_content-count-2 : goal.slice_bounds-put_content-count-2
slice_bounds-put_content-count-2 c = (bounds c.before).0

pub slice_bounds-put_content-start-2 : goal.slice_bounds-put_content-start-2
slice_bounds-put_content-start-2 c = (bounds c.before).0

pub slice_bounds-put_content-end-2 : goal.slice_bounds-put_content-end-2
slice_bounds-put_content-end-2 c = (bounds c.before).1

pub put_content-o-requires : goal.put_content-o-requires
put_content-o-requires c =
    ((here c.before.before.before.before.before.before.before).content, lent_part (emits1 c.before.before.before.before.before) (content c.before.before.before.before.before.before.before) [] (sym (append-nil (content c.before.before.before.before.before.before.before))))

pub put_start-o-requires : goal.put_start-o-requires
put_start-o-requires c = c.requires.0

pub slice_bounds-put_content-count : goal.slice_bounds-put_content-count
slice_bounds-put_content-count c = within (emits1 c.before.before.before)

pub slice_bounds-put_content-start : goal.slice_bounds-put_content-start
slice_bounds-put_content-start c = within (emits1 c.before.before.before)

pub overflow_add-o-2 : goal.overflow_add-o-2
overflow_add-o-2 c = small (emits2 c.before.before.before) c.well_formed.0.0

pub shape_of-out : goal.shape_of-out
shape_of-out c = same (emits2 c.before.before.before)

pub returns : goal.returns
returns c = emitted (emits2 c.before.before.before) refl
