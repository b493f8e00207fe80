-- Its lines, the label table, and the line table. Assumes nothing.
use borrow.Author.Rules.{rules}
use mathlib.Core.Path.{◌≡◌, refl, sym}
use mathlib.Core.List.{List, [], ◌++◌, append-nil}
use Prim.Native.Nat.{ℕ}
use Rattle.format.specs.Basics.{ascii}
use Rattle.measuring.proofs.FittingLaws.{first-put, lent_room}
use Rattle.writing.proofs.Parts.{State, Emits, rest, after, emit, emitted, within, small}
use Rattle.format.specs.TextWriter.{label_table}
use Rattle.text_lines_out.specs.Walk.{source_table}
use Rattle.text_write.specs.Tables.{object_in}
use Rattle.text_write.specs.Groups.{debug_lines, debug_group, lines_text, debug_text}
use Rattle.text_write.proofs.WalkedLaws.{labels-put}
use Rattle.text_write.proofs.put_debug.Goals as goal
use Rattle.text_write.proofs.put_debug.Goals.{After-put_bytes-n, After-put_label_table-n}

abbrev two : List ℕ → List ℕ
two ws = label_table (object_in ws).labels

abbrev three : List ℕ → List ℕ
three ws = lines_text ws

parts : (ws : List ℕ) → debug_text ws ≡ debug_lines ++ (two ws ++ three ws)
unfolding debug_group source_table
parts ws = refl

abbrev state1 : (c : After-put_bytes-n) → State ℕ
state1 c = record { at = c.put_bytes-n.result; out = c.put_bytes-n.new.out }

emits1 : (c : After-put_bytes-n) → Emits (debug_text c.args.ws.now) c.args.out.now (two c.args.ws.now ++ three c.args.ws.now) (state1 c)
unfolding ascii
emits1 c =
    let ws = c.args.ws.now in
    first-put debug_lines (two ws ++ three ws) c.args.out.now (parts ws) c.requires.1 c.put_bytes-n.ensures

abbrev state2 : (c : After-put_label_table-n) → State ℕ
state2 c = after (record { at = c.put_bytes-n.result; out = c.put_bytes-n.new.out }) c.put_label_table-n.result c.put_label_table-n.new.out

emits2 : (c : After-put_label_table-n)
    → Emits (debug_text c.args.ws.now) c.args.out.now (two c.args.ws.now ++ three c.args.ws.now)
    (record { at = c.put_bytes-n.result; out = c.put_bytes-n.new.out })
    → Emits (debug_text c.args.ws.now) c.args.out.now (three c.args.ws.now) (state2 c)
emits2 c f =
    let ws = c.args.ws.now in
    let s : State ℕ = record { at = c.put_bytes-n.result; out = c.put_bytes-n.new.out } in
    emit f (two ws) (three ws) refl
    (labels-put ws c.requires.0 c.args.p.widths.names c.args.p.widths.indices c.requires.2.wide (rest s)
    c.put_label_table-n.new.out c.put_label_table-n.result (lent_room f (two ws) (three ws) refl) c.put_label_table-n.ensures)

pub put_lines-requires : goal.put_lines-requires
put_lines-requires c =
    let g = goal.at.put_lines-requires c in
    let fits = lent_room (emits2 g.After-put_label_table-n (emits1 g.After-put_bytes-n)) (three c.args.ws.now) [] (sym (append-nil (three c.args.ws.now))) in
    (c.requires.0, fits, c.requires.2.source)

pub slice_bounds-put_label_table-count : goal.slice_bounds-put_label_table-count
slice_bounds-put_label_table-count c = within (emits1 (goal.at.slice_bounds-put_label_table-count c).After-put_bytes-n)

pub slice_bounds-put_label_table-start : goal.slice_bounds-put_label_table-start
slice_bounds-put_label_table-start c = within (emits1 (goal.at.slice_bounds-put_label_table-start c).After-put_bytes-n)

pub overflow_add-n : goal.overflow_add-n
overflow_add-n c =
    let g = goal.at.overflow_add-n c in small (emits2 g.After-put_label_table-n (emits1 g.After-put_bytes-n)) (search rules)

pub slice_bounds-put_lines-count : goal.slice_bounds-put_lines-count
slice_bounds-put_lines-count c =
    let g = goal.at.slice_bounds-put_lines-count c in within (emits2 g.After-put_label_table-n (emits1 g.After-put_bytes-n))

pub slice_bounds-put_lines-start : goal.slice_bounds-put_lines-start
slice_bounds-put_lines-start c =
    let g = goal.at.slice_bounds-put_lines-start c in within (emits2 g.After-put_label_table-n (emits1 g.After-put_bytes-n))

pub overflow_add-result : goal.overflow_add-result
overflow_add-result c =
    let g = goal.at.overflow_add-result c in
    small (emit (emits2 g.After-put_label_table-n (emits1 g.After-put_bytes-n)) (three c.args.ws.now) [] (sym (append-nil _)) c.put_lines.ensures)
    (search rules)

pub returns : goal.returns
returns c =
    let g = goal.at.returns c in
    emitted (emit (emits2 g.After-put_label_table-n (emits1 g.After-put_bytes-n)) (three c.args.ws.now) [] (sym (append-nil _)) c.put_lines.ensures)
    refl
