-- Its lines, the table's header if there are rows, and the rows. Assumes nothing.
use borrow.Author.Rules.{rules}
use mathlib.Core.Path.{◌≡◌, refl, sym, ap, subst, ◌∙◌}
use mathlib.Core.List.{List, [], ◌++◌, append-nil, append_assoc}
use Prim.Native.Nat.{ℕ, ◌^◌, ◌<◌}
use lib.ListN.{length}
use Rattle.format.specs.Basics.{ascii}
use Rattle.format.specs.TextWriter.{text_line, linker_header}
use Rattle.writing.specs.Written.{Put}
use Rattle.writing.proofs.Parts.{State, Emits, rest, after, emit, emitted, within, small}
use Rattle.measuring.proofs.FittingLaws.{first-put, lent_room}
use Rattle.text_write.specs.Tables.{object_in, relocation_rows, relocations_text}
use Rattle.text_write.specs.Groups.{linker_lines, links_text}
use Rattle.text_write.proofs.GroupLaws.{linker-none, linker_some}
use Rattle.text_write.proofs.PastLaws.{links-none, links_some}
use Rattle.text_write.proofs.WalkedLaws.{links-put}
use Rattle.text_write.proofs.put_links.Lts as lts
use Rattle.text_write.proofs.put_links.Reads as reads
use Rattle.text_write.proofs.put_links.Tie as tie
use Rattle.text_write.proofs.put_links.Goals as goal

abbrev After-put_relocations : Type 0
After-put_relocations = lts.After-put_relocations tie.the-claims reads.Pre reads.Post

abbrev After-put_bytes2 : Type 0
After-put_bytes2 = lts.After-put_bytes2 tie.the-claims reads.Pre reads.Post

abbrev Else1 : Type 0
Else1 = lts.Else1 tie.the-claims reads.Pre reads.Post

abbrev Then1 : Type 0
Then1 = lts.Then1 tie.the-claims reads.Pre reads.Post

nothing : (t : Then1) → linker_lines ≡ links_text t.args.ws.now
unfolding relocation_rows
nothing t =
    let ws = t.args.ws.now in
    sym (ap (λ (l : List ℕ). linker_lines ++ l) (linker-none (object_in ws).relocations
    (links-none ws t.args.from t.requires.1.0 t.if-ws-from.true)) ∙ append-nil linker_lines)

abbrev ws : (c : Else1) → List ℕ
ws c = c.args.ws.now

abbrev room : (c : Else1) → List ℕ
room c = c.args.out.now

whole : (c : Else1) → links_text (ws c) ≡ (linker_lines ++ text_line linker_header) ++ relocations_text (ws c)
unfolding relocation_rows
whole c =
    ap (λ (l : List ℕ). linker_lines ++ l) (linker_some (object_in (ws c)).relocations
    (links_some (ws c) c.args.from c.requires.1.0 c.if-ws-from.false (c.requires.1.1 c.if-ws-from.false)))
    ∙ sym (append_assoc linker_lines (text_line linker_header) (relocations_text (ws c)))

long : (c : Else1) → length (room c) < 2 ^ 64
long c = search rules

abbrev state1 : (c : After-put_bytes2) → State ℕ
state1 c = record { at = c.put_bytes-n.result; out = c.put_bytes-n.new.out }

emits1 : (c : After-put_bytes2) → Emits (links_text (ws c.before.before.before.before)) (room c.before.before.before.before) (relocations_text (ws c.before.before.before.before)) (state1 c)
unfolding ascii
emits1 c =
    first-put (linker_lines ++ text_line linker_header) (relocations_text (ws c.before.before.before.before)) (room c.before.before.before.before) (whole c.before.before.before.before) c.requires.0
    c.put_bytes-n.ensures

emits2 : (c : After-put_relocations) → Emits (links_text (ws c.before.before.before.before.before.before.before.before)) (room c.before.before.before.before.before.before.before.before) []
    (after (state1 c.before.before.before.before) c.put_relocations.result c.put_relocations.new.out)
emits2 c =
    let rows = relocations_text (ws c.before.before.before.before.before.before.before.before) in
    emit (emits1 c.before.before.before.before) rows [] (sym (append-nil rows))
    (links-put (ws c.before.before.before.before.before.before.before.before) c.args.from c.requires.1 (rest (state1 c.before.before.before.before)) c.put_relocations.new.out c.put_relocations.result
    (lent_room (emits1 c.before.before.before.before) rows [] (sym (append-nil rows))) c.put_relocations.ensures)

pub returns-then-ws-from : goal.returns-then-ws-from
unfolding ascii
returns-then-ws-from c =
    subst (λ (l : List ℕ). Put l c.args.out.now c.put_bytes.result c.put_bytes.new.out) (nothing c.before.before.before.before.before.before.before)
    c.put_bytes.ensures

pub slice_bounds-put_relocations-count : goal.slice_bounds-put_relocations-count
slice_bounds-put_relocations-count c = within (emits1 c.before.before.before)

pub slice_bounds-put_relocations-start : goal.slice_bounds-put_relocations-start
slice_bounds-put_relocations-start c = within (emits1 c.before.before.before)

pub overflow_add-result : goal.overflow_add-result
overflow_add-result c = small (emits2 c.before.before.before) (long c.before.before.before.before.before.before.before.before.before.before.before)

pub returns : goal.returns
returns c = emitted (emits2 c.before.before.before) refl
