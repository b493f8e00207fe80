-- Its lines, the blocks, and the rest. Assumes nothing.
use borrow.Author.Rules.{rules}
use mathlib.Core.Path.{◌≡◌, refl, sym}
use mathlib.Core.List.{List, [], ◌++◌, append-nil}
use Prim.Native.Nat.{ℕ, ◌^◌, ◌<◌}
use lib.ListN.{length}
use Rattle.format.specs.Basics.{ascii}
use Rattle.measuring.proofs.FittingLaws.{first-put, lent_room}
use Rattle.writing.proofs.Parts.{State, Emits, rest, after, emit, emitted, within, small}
use Rattle.text_write.specs.Tables.{object_in, blocks_text}
use Rattle.text_write.specs.Groups.{head_lines, rest_text, file_text}
use Rattle.text_write.proofs.GroupLaws.{file_parts}
use Rattle.text_write.proofs.WalkedLaws.{blocks-put}
use Rattle.text_write.proofs.put_file.Lts as lts
use Rattle.text_write.proofs.put_file.Reads as reads
use Rattle.text_write.proofs.put_file.Tie as tie
use Rattle.text_write.proofs.put_file.Goals as goal

abbrev After-put_rest : Type 0
After-put_rest = lts.After-put_rest tie.the-claims reads.Pre reads.Post

abbrev After-put_blocks : Type 0
After-put_blocks = lts.After-put_blocks tie.the-claims reads.Pre reads.Post

abbrev After-put_bytes : Type 0
After-put_bytes = lts.After-put_bytes tie.the-claims reads.Pre reads.Post

abbrev Start : Type 0
Start = lts.Start tie.the-claims reads.Pre reads.Post

abbrev ws : (s : Start) → List ℕ
ws s = s.args.ws.now

abbrev room : (s : Start) → List ℕ
room s = s.args.out.now

abbrev two : (s : Start) → List ℕ
two s = blocks_text (ws s)

abbrev three : (s : Start) → List ℕ
three s = rest_text (ws s)

abbrev whole : (s : Start) → List ℕ
whole s = file_text (ws s)

parts : (s : Start) → (whole s) ≡ head_lines ++ ((two s) ++ (three s))
parts s = file_parts (object_in (ws s))

tight : (s : Start) → length (room s) < 2 ^ 64
tight s = search rules

abbrev state1 : (c : After-put_bytes) → State ℕ
state1 c = record { at = c.put_bytes-n.result; out = c.put_bytes-n.new.out }

emits1 : (c : After-put_bytes) → Emits (whole c.before.before.before.before.before.before) (room c.before.before.before.before.before.before) (two c.before.before.before.before.before.before ++ three c.before.before.before.before.before.before) (state1 c)
unfolding ascii
emits1 c = first-put (head_lines) (two c.before.before.before.before.before.before ++ three c.before.before.before.before.before.before) (room c.before.before.before.before.before.before) (parts c.before.before.before.before.before.before) c.requires.1 c.put_bytes-n.ensures

abbrev state2 : (c : After-put_blocks) → State ℕ
state2 c = after (state1 c.before.before.before.before) c.put_blocks-n.result c.put_blocks-n.new.out

emits2 : (c : After-put_blocks) → Emits (whole c.before.before.before.before.before.before.before.before.before.before) (room c.before.before.before.before.before.before.before.before.before.before) (three c.before.before.before.before.before.before.before.before.before.before) (state2 c)
emits2 c = emit (emits1 c.before.before.before.before) (two c.before.before.before.before.before.before.before.before.before.before) (three c.before.before.before.before.before.before.before.before.before.before) refl
    (blocks-put (ws c.before.before.before.before.before.before.before.before.before.before) c.requires.0 (rest (state1 c.before.before.before.before)) c.put_blocks-n.new.out c.put_blocks-n.result
    (lent_room (emits1 c.before.before.before.before) (two c.before.before.before.before.before.before.before.before.before.before) (three c.before.before.before.before.before.before.before.before.before.before) refl) c.put_blocks-n.ensures)

emits3 : (c : After-put_rest) → Emits (whole c.before.before.before.before.before.before.before.before.before.before.before.before.before.before) (room c.before.before.before.before.before.before.before.before.before.before.before.before.before.before) [] (after (state2 c.before.before.before.before) c.put_rest.result c.put_rest.new.out)
emits3 c = emit (emits2 c.before.before.before.before) (three c.before.before.before.before.before.before.before.before.before.before.before.before.before.before) [] (sym (append-nil (three c.before.before.before.before.before.before.before.before.before.before.before.before.before.before))) c.put_rest.ensures

pub put_rest-requires : goal.put_rest-requires
put_rest-requires c =
    let fits = lent_room (emits2 c.before.before.before.before) (three c.before.before.before.before.before.before.before.before.before.before.before.before.before.before) [] (sym (append-nil (three c.before.before.before.before.before.before.before.before.before.before.before.before.before.before))) in
    (c.requires.0, fits, c.requires.2)

pub slice_bounds-put_blocks-count : goal.slice_bounds-put_blocks-count
slice_bounds-put_blocks-count c = within (emits1 c.before.before.before)

pub slice_bounds-put_blocks-start : goal.slice_bounds-put_blocks-start
slice_bounds-put_blocks-start c = within (emits1 c.before.before.before)

pub overflow_add-n : goal.overflow_add-n
overflow_add-n c = small (emits2 c.before.before.before) (tight c.before.before.before.before.before.before.before.before.before.before.before.before.before)

pub slice_bounds-put_rest-count : goal.slice_bounds-put_rest-count
slice_bounds-put_rest-count c = within (emits2 c.before.before.before)

pub slice_bounds-put_rest-start : goal.slice_bounds-put_rest-start
slice_bounds-put_rest-start c = within (emits2 c.before.before.before)

pub overflow_add-result : goal.overflow_add-result
overflow_add-result c = small (emits3 c.before.before.before) (tight c.before.before.before.before.before.before.before.before.before.before.before.before.before.before.before.before.before)

pub returns : goal.returns
returns c = emitted (emits3 c.before.before.before) refl
