-- A line, the symbol table, and the linker's group. Assumes nothing.
use borrow.Author.Rules.{rules}
use mathlib.Core.Path.{◌≡◌, refl, sym}
use mathlib.Core.List.{List, [], ◌++◌, append-nil}
use Prim.Native.Nat.{ℕ, ◌^◌, ◌<◌}
use lib.ListN.{length}
use Rattle.format.specs.Basics.{ascii}
use Rattle.measuring.proofs.FittingLaws.{first-put, lent_room}
use Rattle.writing.proofs.Parts.{State, Emits, rest, after, emit, emitted, within, small}
use Rattle.format.specs.TextWriter.{text_line, symbol_table}
use Rattle.text_write.specs.Tables.{object_in}
use Rattle.text_write.specs.Groups.{name_groups, links_text, names_text}
use Rattle.text_write.proofs.WalkedLaws.{symbols_put}
use Rattle.text_write.proofs.put_names.Lts as lts
use Rattle.text_write.proofs.put_names.Reads as reads
use Rattle.text_write.proofs.put_names.Tie as tie
use Rattle.text_write.proofs.put_names.Goals as goal

abbrev After-put_links : Type 0
After-put_links = lts.After-put_links tie.the-claims reads.Pre reads.Post

abbrev After-put_symbol_table : Type 0
After-put_symbol_table = lts.After-put_symbol_table tie.the-claims reads.Pre reads.Post

abbrev After-put_bytes : Type 0
After-put_bytes = lts.After-put_bytes tie.the-claims reads.Pre reads.Post

abbrev Start : Type 0
Start = lts.Start tie.the-claims reads.Pre reads.Post

abbrev ws : (s : Start) → List ℕ
ws s = s.args.ws.now

abbrev room : (s : Start) → List ℕ
room s = s.args.out.now

abbrev two : (s : Start) → List ℕ
two s = symbol_table (object_in (ws s)).labels

abbrev three : (s : Start) → List ℕ
three s = links_text (ws s)

abbrev whole : (s : Start) → List ℕ
whole s = names_text (ws s)

parts : (s : Start) → (whole s) ≡ text_line [] ++ text_line (ascii ".SYMBOL") ++ ((two s) ++ (three s))
unfolding name_groups
parts s = refl

tight : (s : Start) → length (room s) < 2 ^ 64
tight s = search rules

abbrev state1 : (c : After-put_bytes) → State ℕ
state1 c = record { at = c.put_bytes-n.result; out = c.put_bytes-n.new.out }

emits1 : (c : After-put_bytes) → Emits (whole c.before.before.before.before.before.before) (room c.before.before.before.before.before.before) (two c.before.before.before.before.before.before ++ three c.before.before.before.before.before.before) (state1 c)
unfolding ascii
emits1 c = first-put (text_line [] ++ text_line (ascii ".SYMBOL")) (two c.before.before.before.before.before.before ++ three c.before.before.before.before.before.before) (room c.before.before.before.before.before.before) (parts c.before.before.before.before.before.before) c.requires.1 c.put_bytes-n.ensures

abbrev state2 : (c : After-put_symbol_table) → State ℕ
state2 c = after (state1 c.before.before.before.before) c.put_symbol_table-n.result c.put_symbol_table-n.new.out

emits2 : (c : After-put_symbol_table) → Emits (whole c.before.before.before.before.before.before.before.before.before.before) (room c.before.before.before.before.before.before.before.before.before.before) (three c.before.before.before.before.before.before.before.before.before.before) (state2 c)
emits2 c = emit (emits1 c.before.before.before.before) (two c.before.before.before.before.before.before.before.before.before.before) (three c.before.before.before.before.before.before.before.before.before.before) refl
    (symbols_put (ws c.before.before.before.before.before.before.before.before.before.before) c.requires.0 (rest (state1 c.before.before.before.before)) c.put_symbol_table-n.new.out c.put_symbol_table-n.result
    (lent_room (emits1 c.before.before.before.before) (two c.before.before.before.before.before.before.before.before.before.before) (three c.before.before.before.before.before.before.before.before.before.before) refl) c.put_symbol_table-n.ensures)

emits3 : (c : After-put_links) → Emits (whole c.before.before.before.before.before.before.before.before.before.before.before.before.before.before) (room c.before.before.before.before.before.before.before.before.before.before.before.before.before.before) [] (after (state2 c.before.before.before.before) c.put_links.result c.put_links.new.out)
emits3 c = emit (emits2 c.before.before.before.before) (three c.before.before.before.before.before.before.before.before.before.before.before.before.before.before) [] (sym (append-nil (three c.before.before.before.before.before.before.before.before.before.before.before.before.before.before))) c.put_links.ensures

pub put_links-requires : goal.put_links-requires
put_links-requires c =
    let fits = lent_room (emits2 c.before.before.before.before) (three c.before.before.before.before.before.before.before.before.before.before.before.before.before.before) [] (sym (append-nil (three c.before.before.before.before.before.before.before.before.before.before.before.before.before.before))) in
    (fits, c.requires.2)

pub slice_bounds-put_symbol_table-count : goal.slice_bounds-put_symbol_table-count
slice_bounds-put_symbol_table-count c = within (emits1 c.before.before.before)

pub slice_bounds-put_symbol_table-start : goal.slice_bounds-put_symbol_table-start
slice_bounds-put_symbol_table-start c = within (emits1 c.before.before.before)

pub overflow_add-n : goal.overflow_add-n
overflow_add-n c = small (emits2 c.before.before.before) (tight c.before.before.before.before.before.before.before.before.before.before.before.before.before)

pub slice_bounds-put_links-count : goal.slice_bounds-put_links-count
slice_bounds-put_links-count c = within (emits2 c.before.before.before)

pub slice_bounds-put_links-start : goal.slice_bounds-put_links-start
slice_bounds-put_links-start c = within (emits2 c.before.before.before)

pub overflow_add-result : goal.overflow_add-result
overflow_add-result c = small (emits3 c.before.before.before) (tight c.before.before.before.before.before.before.before.before.before.before.before.before.before.before.before.before.before)

pub returns : goal.returns
returns c = emitted (emits3 c.before.before.before) refl
