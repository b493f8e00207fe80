-- The bytes, then the newline, escaped, and the end of the row. Assumes nothing.
use borrow.Author.Rules.{rules}
use mathlib.Core.Path.{◌≡◌, refl, sym}
use mathlib.Core.List.{List, [], ◌++◌, append-nil}
use Prim.Native.Nat.{ℕ, ◌^◌, ◌<◌}
use lib.ListN.{length}
use Rattle.writing.proofs.Parts.{State, Emits, after, emit, emitted, within, small}
use Rattle.measuring.proofs.FittingLaws.{first-put}
use Rattle.object.specs.Texts.{span_bytes}
use Rattle.text_escape.specs.Rows.{newline_bytes}
use Rattle.text_escape.proofs.put_plain_cell.Lts as lts
use Rattle.text_escape.proofs.put_plain_cell.Reads as reads
use Rattle.text_escape.proofs.put_plain_cell.Tie as tie
use Rattle.text_escape.proofs.put_plain_cell.Goals as goal

abbrev After-put_bytes : Type 0
After-put_bytes = lts.After-put_bytes tie.the-claims reads.Pre reads.Post

abbrev After-put_span : Type 0
After-put_span = lts.After-put_span tie.the-claims reads.Pre reads.Post

abbrev Start : Type 0
Start = lts.Start tie.the-claims reads.Pre reads.Post

abbrev room : (s : Start) → List ℕ
room s = s.args.out.now

abbrev one : (s : Start) → List ℕ
one s = span_bytes s.args.ws.now s.args.at s.args.start s.args.end

abbrev two : (s : Start) → List ℕ
two s = newline_bytes

abbrev whole : (s : Start) → List ℕ
whole s = span_bytes s.args.ws.now s.args.at s.args.start s.args.end ++ newline_bytes

parts : (s : Start) → (whole s) ≡ (one s) ++ (two s)
parts s = refl

abbrev state1 : (c : After-put_span) → State ℕ
state1 c = record { at = c.put_span-k.result; out = c.put_span-k.new.out }

emits1 : (c : After-put_span) → Emits (whole c.before.before.before.before) (room c.before.before.before.before) (two c.before.before.before.before) (state1 c)
emits1 c = first-put (one c.before.before.before.before) (two c.before.before.before.before) (room c.before.before.before.before) (parts c.before.before.before.before) c.requires c.put_span-k.ensures

emits2 : (c : After-put_bytes) → Emits (whole c.before.before.before.before.before.before.before.before.before) (room c.before.before.before.before.before.before.before.before.before) [] (after (state1 c.before.before.before.before.before) c.put_bytes.result c.put_bytes.new.out)
emits2 c = emit (emits1 c.before.before.before.before.before) (two c.before.before.before.before.before.before.before.before.before) [] (sym (append-nil (two c.before.before.before.before.before.before.before.before.before))) c.put_bytes.ensures

tight : (c : After-put_bytes) → length (room c.before.before.before.before.before.before.before.before.before) < 2 ^ 64
tight c = search rules

pub slice_bounds-put_bytes-count : goal.slice_bounds-put_bytes-count
slice_bounds-put_bytes-count c = within (emits1 c.before.before.before)

pub slice_bounds-put_bytes-start : goal.slice_bounds-put_bytes-start
slice_bounds-put_bytes-start c = within (emits1 c.before.before.before)

pub overflow_add-result : goal.overflow_add-result
overflow_add-result c = small (emits2 c.before.before.before) (tight c.before.before.before)

pub returns : goal.returns
returns c = emitted (emits2 c.before.before.before) refl
