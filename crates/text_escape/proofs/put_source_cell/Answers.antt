-- The bytes, escaped, then a newline. Assumes nothing.
use borrow.Author.Rules.{rules}
use mathlib.Core.Path.{◌≡◌, refl, sym}
use mathlib.Core.List.{List, [], ◌∷◌, ◌++◌, append-nil}
use Prim.Native.Nat.{ℕ, ◌^◌, ◌<◌}
use lib.ListN.{length}
use Rattle.writing.proofs.Parts.{State, Emits, after, emit, emitted, within, small}
use Rattle.measuring.proofs.FittingLaws.{first-put}
use Rattle.format.specs.TextWriter.{text_line}
use Rattle.text_escape.specs.Escaped.{escaped_in}
use Rattle.text_escape.proofs.put_source_cell.Lts as lts
use Rattle.text_escape.proofs.put_source_cell.Reads as reads
use Rattle.text_escape.proofs.put_source_cell.Tie as tie
use Rattle.text_escape.proofs.put_source_cell.Goals as goal

abbrev After-put_u8 : Type 0
After-put_u8 = lts.After-put_u8 tie.the-claims reads.Pre reads.Post

abbrev After-put_chars : Type 0
After-put_chars = lts.After-put_chars tie.the-claims reads.Pre reads.Post

abbrev Start : Type 0
Start = lts.Start tie.the-claims reads.Pre reads.Post

abbrev room : (s : Start) → List ℕ
room s = s.args.out.now

abbrev one : (s : Start) → List ℕ
one s = escaped_in s.args.ws.now s.args.at s.args.start s.args.end

abbrev two : (s : Start) → List ℕ
two s = 0x0A ∷ []

abbrev whole : (s : Start) → List ℕ
whole s = text_line (escaped_in s.args.ws.now s.args.at s.args.start s.args.end)

parts : (s : Start) → (whole s) ≡ (one s) ++ (two s)
parts s = refl

abbrev state1 : (c : After-put_chars) → State ℕ
state1 c = record { at = c.put_chars-k.result; out = c.put_chars-k.new.out }

emits1 : (c : After-put_chars) → Emits (whole c.before.before.before.before) (room c.before.before.before.before) (two c.before.before.before.before) (state1 c)
emits1 c = first-put (one c.before.before.before.before) (two c.before.before.before.before) (room c.before.before.before.before) (parts c.before.before.before.before) c.requires c.put_chars-k.ensures

emits2 : (c : After-put_u8) → Emits (whole c.before.before.before.before.before.before.before.before) (room c.before.before.before.before.before.before.before.before) [] (after (state1 c.before.before.before.before) c.put_u8.result c.put_u8.new.out)
emits2 c = emit (emits1 c.before.before.before.before) (two c.before.before.before.before.before.before.before.before) [] (sym (append-nil (two c.before.before.before.before.before.before.before.before))) c.put_u8.ensures

tight : (c : After-put_u8) → length (room c.before.before.before.before.before.before.before.before) < 2 ^ 64
tight c = search rules

pub slice_bounds-put_u8-count : goal.slice_bounds-put_u8-count
slice_bounds-put_u8-count c = within (emits1 c.before.before.before)

pub slice_bounds-put_u8-start : goal.slice_bounds-put_u8-start
slice_bounds-put_u8-start c = within (emits1 c.before.before.before)

pub overflow_add-result : goal.overflow_add-result
overflow_add-result c = small (emits2 c.before.before.before) (tight c.before.before.before)

pub returns : goal.returns
returns c = emitted (emits2 c.before.before.before) refl
