-- The number in its column, then the address. Assumes nothing.
use borrow.Author.Rules.{rules}
use mathlib.Core.Path.{◌≡◌, refl, sym}
use mathlib.Core.List.{List, [], ◌++◌, append-nil}
use Prim.Native.Nat.{ℕ, ◌^◌, ◌<◌}
use lib.ListN.{length}
use Rattle.writing.proofs.Parts.{State, Emits, after, emit, emitted, within, small}
use Rattle.measuring.proofs.FittingLaws.{first-put, lent_room}
use Rattle.format.specs.TextWriter.{decimal, to_right}
use Rattle.text_numerals.specs.Memory.{word_of}
use Rattle.text_escape.specs.Rows.{address_cell, row_head}
use Rattle.text_escape.proofs.put_row_head.Lts as lts
use Rattle.text_escape.proofs.put_row_head.Reads as reads
use Rattle.text_escape.proofs.put_row_head.Tie as tie
use Rattle.text_escape.proofs.put_row_head.Goals as goal

abbrev After-put_address_cell : Type 0
After-put_address_cell = lts.After-put_address_cell tie.the-claims reads.Pre reads.Post

abbrev After-put_right : Type 0
After-put_right = lts.After-put_right tie.the-claims reads.Pre reads.Post

abbrev Start : Type 0
Start = lts.Start tie.the-claims reads.Pre reads.Post

abbrev room : (s : Start) → List ℕ
room s = s.args.out.now

abbrev one : (s : Start) → List ℕ
one s = to_right s.args.width (decimal s.args.row.number)

abbrev two : (s : Start) → List ℕ
two s = address_cell (word_of s.args.row.address)

abbrev whole : (s : Start) → List ℕ
whole s = row_head s.args.width s.args.row.number (word_of s.args.row.address)

parts : (s : Start) → (whole s) ≡ (one s) ++ (two s)
parts s = refl

abbrev state1 : (c : After-put_right) → State ℕ
state1 c = record { at = c.put_right-k.result; out = c.put_right-k.new.out }

emits1 : (c : After-put_right) → Emits (whole c.before.before.before) (room c.before.before.before) (two c.before.before.before) (state1 c)
emits1 c = first-put (one c.before.before.before) (two c.before.before.before) (room c.before.before.before) (parts c.before.before.before) c.requires c.put_right-k.ensures

emits2 : (c : After-put_address_cell) → Emits (whole c.before.before.before.before.before.before.before) (room c.before.before.before.before.before.before.before) [] (after (state1 c.before.before.before.before) c.put_address_cell.result c.put_address_cell.new.out)
emits2 c = emit (emits1 c.before.before.before.before) (two c.before.before.before.before.before.before.before) [] (sym (append-nil (two c.before.before.before.before.before.before.before))) c.put_address_cell.ensures

tight : (c : After-put_address_cell) → length (room c.before.before.before.before.before.before.before) < 2 ^ 64
tight c = search rules

pub slice_bounds-put_address_cell-count : goal.slice_bounds-put_address_cell-count
slice_bounds-put_address_cell-count c = within (emits1 c.before.before.before)

pub slice_bounds-put_address_cell-start : goal.slice_bounds-put_address_cell-start
slice_bounds-put_address_cell-start c = within (emits1 c.before.before.before)

pub put_address_cell-requires : goal.put_address_cell-requires
put_address_cell-requires c = lent_room (emits1 c.before.before.before) (two c.before.before.before.before.before.before) [] (sym (append-nil (two c.before.before.before.before.before.before)))

pub overflow_add-result : goal.overflow_add-result
overflow_add-result c = small (emits2 c.before.before.before) (tight c.before.before.before)

pub returns : goal.returns
returns c = emitted (emits2 c.before.before.before) refl
