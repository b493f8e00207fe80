-- Two lines. Assumes nothing.
use native.Mathlib.Omega.{arith}
use mathlib.Core.Path.{refl, sym}
use mathlib.Core.List.{List, [], ◌++◌, append-nil}
use Prim.Native.Nat.{ℕ, ◌^◌, ◌<◌}
use lib.ListN.{length}
use Rattle.format.specs.TextWriter.{hex4, decimal, text_line}
use Rattle.writing.proofs.Parts.{State, Emits, after, emit, emitted, within, small}
use Rattle.measuring.proofs.FittingLaws.{first-put}
use Rattle.text_parts_out.proofs.put_block_head.Lts as lts
use Rattle.text_parts_out.proofs.put_block_head.Reads as reads
use Rattle.text_parts_out.proofs.put_block_head.Tie as tie
use Rattle.text_parts_out.proofs.put_block_head.Goals as goal

abbrev After-put_count_line : Type 0
After-put_count_line = lts.After-put_count_line tie.the-claims reads.Pre reads.Post

abbrev After-put_address_line : Type 0
After-put_address_line = lts.After-put_address_line tie.the-claims reads.Pre reads.Post

abbrev Start : Type 0
Start = lts.Start tie.the-claims reads.Pre reads.Post

abbrev line : (s : Start) → List ℕ
line s = text_line (hex4 s.args.address)

abbrev count : (s : Start) → List ℕ
count s = text_line (decimal s.args.count)

abbrev state1 : (c : After-put_address_line) → State ℕ
state1 c = record { at = c.put_address_line-n.result; out = c.put_address_line-n.new.out }

emits1 : (c : After-put_address_line) → Emits (line c.before.before.before ++ count c.before.before.before) c.args.out.now (count c.before.before.before) (state1 c)
emits1 c = first-put (line c.before.before.before) (count c.before.before.before) c.args.out.now refl c.requires c.put_address_line-n.ensures

emits2 : (c : After-put_count_line) → Emits (line c.before.before.before.before.before.before.before ++ count c.before.before.before.before.before.before.before) c.args.out.now []
    (after (state1 c.before.before.before.before) c.put_count_line.result c.put_count_line.new.out)
emits2 c = emit (emits1 c.before.before.before.before) (count c.before.before.before.before.before.before.before) [] (sym (append-nil (count c.before.before.before.before.before.before.before))) c.put_count_line.ensures

tight : (c : After-put_count_line) → length c.args.out.now < 2 ^ 64
tight c = omega arith

pub slice_bounds-put_count_line-count : goal.slice_bounds-put_count_line-count
slice_bounds-put_count_line-count c = within (emits1 c.before.before.before)

pub slice_bounds-put_count_line-start : goal.slice_bounds-put_count_line-start
slice_bounds-put_count_line-start c = within (emits1 c.before.before.before)

pub overflow_add-result : goal.overflow_add-result
overflow_add-result c = small (emits2 c.before.before.before) (tight c.before.before.before)

pub returns : goal.returns
returns c = emitted (emits2 c.before.before.before) refl
