-- Three parts. Assumes nothing.
use borrow.Author.Rules.{rules}
use mathlib.Core.Path.{refl, sym}
use mathlib.Core.List.{List, [], ◌++◌, append-nil}
use Prim.Native.Nat.{ℕ, ◌^◌, ◌<◌}
use lib.ListN.{length}
use Rattle.format.specs.Basics.{ascii}
use Rattle.format.specs.TextWriter.{memory_text, table_div}
use Rattle.writing.proofs.Parts.{State, Emits, after, emit, emitted, within, small}
use Rattle.measuring.proofs.FittingLaws.{first-put}
use Rattle.text_numerals.specs.Memory.{word_of}
use Rattle.text_escape.specs.Rows.{address_cell}
use Rattle.text_escape.proofs.put_address_cell.Lts as lts
use Rattle.text_escape.proofs.put_address_cell.Reads as reads
use Rattle.text_escape.proofs.put_address_cell.Tie as tie
use Rattle.text_escape.proofs.put_address_cell.Goals as goal

abbrev After-put_bytes2 : Type 0
After-put_bytes2 = lts.After-put_bytes2 tie.the-claims reads.Pre reads.Post

abbrev After-put_memory : Type 0
After-put_memory = lts.After-put_memory tie.the-claims reads.Pre reads.Post

abbrev After-put_bytes : Type 0
After-put_bytes = lts.After-put_bytes tie.the-claims reads.Pre reads.Post

abbrev Start : Type 0
Start = lts.Start tie.the-claims reads.Pre reads.Post

abbrev room : (s : Start) → List ℕ
room s = s.args.out.now

abbrev memory : (s : Start) → List ℕ
memory s = memory_text (word_of s.args.address)

abbrev whole : (s : Start) → List ℕ
whole s = address_cell (word_of s.args.address)

abbrev state1 : (c : After-put_bytes) → State ℕ
state1 c = record { at = c.put_bytes-k.result; out = c.put_bytes-k.new.out }

emits1 : (c : After-put_bytes) → Emits (whole c.before.before.before.before) (room c.before.before.before.before) (memory c.before.before.before.before ++ table_div) (state1 c)
unfolding ascii
emits1 c = first-put table_div (memory c.before.before.before.before ++ table_div) (room c.before.before.before.before) refl c.requires c.put_bytes-k.ensures

abbrev state2 : (c : After-put_memory) → State ℕ
state2 c = after (state1 c.before.before.before.before) c.put_memory-k.result c.put_memory-k.new.out

emits2 : (c : After-put_memory) → Emits (whole c.before.before.before.before.before.before.before.before) (room c.before.before.before.before.before.before.before.before) table_div (state2 c)
emits2 c = emit (emits1 c.before.before.before.before) (memory c.before.before.before.before.before.before.before.before) table_div refl c.put_memory-k.ensures

tight : (c : After-put_memory) → length (room c.before.before.before.before.before.before.before.before) < 2 ^ 64
tight c = search rules

emits3 : (c : After-put_bytes2) → Emits (whole c.before.before.before.before.before.before.before.before.before.before.before.before.before) (room c.before.before.before.before.before.before.before.before.before.before.before.before.before) [] (after (state2 c.before.before.before.before.before) c.put_bytes.result c.put_bytes.new.out)
unfolding ascii
emits3 c = emit (emits2 c.before.before.before.before.before) table_div [] (sym (append-nil table_div)) c.put_bytes.ensures

pub slice_bounds-put_memory-count : goal.slice_bounds-put_memory-count
slice_bounds-put_memory-count c = within (emits1 c.before.before.before)

pub slice_bounds-put_memory-start : goal.slice_bounds-put_memory-start
slice_bounds-put_memory-start c = within (emits1 c.before.before.before)

pub overflow_add-k : goal.overflow_add-k
overflow_add-k c = small (emits2 c.before.before.before) (tight c.before.before.before)

pub slice_bounds-put_bytes-count : goal.slice_bounds-put_bytes-count
slice_bounds-put_bytes-count c = within (emits2 c.before.before.before)

pub slice_bounds-put_bytes-start : goal.slice_bounds-put_bytes-start
slice_bounds-put_bytes-start c = within (emits2 c.before.before.before)

pub overflow_add-result : goal.overflow_add-result
overflow_add-result c = small (emits3 c.before.before.before) (tight c.before.before.before.before.before.before.before.before)

pub returns : goal.returns
returns c = emitted (emits3 c.before.before.before) refl
