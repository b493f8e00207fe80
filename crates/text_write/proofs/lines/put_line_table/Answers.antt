-- Header, the rows that wrapped, and those of the walk. Assumes nothing.
use borrow.Author.Rules.{rules}
use native.Mathlib.Omega.{arith}
use mathlib.Core.Path.{◌≡◌, refl, sym, subst}
use mathlib.Core.Bool.{true}
use mathlib.Core.List.{List, [], ◌++◌, append-nil}
use Prim.Native.Nat.{ℕ, ◌+◌, ◌^◌, ◌≤◌, ◌<◌}
use lib.ListN.{length}
use Rattle.format.specs.TextWriter.{Row, line_table, line_header, text_line}
use Rattle.text_escape.proofs.EscapeLaws.{part_room}
use Rattle.writing.proofs.Parts.{State, Emits, rest, after, emit, emitted, within, small}
use Rattle.measuring.proofs.FittingLaws.{first-put}
use Rattle.text_parts_out.specs.Parts.{heads}
use Rattle.text_lines_out.specs.Merge.{smaller}
use Rattle.text_lines_out.specs.Lines.{At, rows_text}
use Rattle.text_lines_out.specs.Runs.{address_from, run_rows}
use Rattle.text_lines_out.specs.declared.Table.{Table}
use Rattle.text_lines_out.specs.Walk.{walk_rows, line_blocks_in}
use Rattle.text_lines_out.specs.declared.Wrapped.{Wrapped}
use Rattle.text_lines_out.proofs.LineLaws.{at_start}
use Rattle.text_lines_out.proofs.TableLaws.{table_parts_lem, wrapped_passed}
use Rattle.text_runs_out.specs.Lines.{row_lines, start_past, joined, placed_rows}
use Rattle.text_write.specs.Layouts.{planned_text, planned_wraps}
use Rattle.text_write.proofs.LineLaws.{run-read, records_read, lines-put}
use Rattle.text_write.proofs.lines.put_line_table.Lts as lts
use Rattle.text_write.proofs.lines.put_line_table.Reads as reads
use Rattle.text_write.proofs.lines.put_line_table.Tie as tie
use Rattle.text_write.proofs.lines.put_line_table.Goals as goal

abbrev After-put_line_records : Type 0
After-put_line_records = lts.After-put_line_records tie.the-claims reads.Pre reads.Post

abbrev After-put_run : Type 0
After-put_run = lts.After-put_run tie.the-claims reads.Pre reads.Post

abbrev After-put_line_header : Type 0
After-put_line_header = lts.After-put_line_header tie.the-claims reads.Pre reads.Post

abbrev After-shared_slice_known : Type 0
After-shared_slice_known = lts.After-shared_slice_known tie.the-claims reads.Pre reads.Post

abbrev ws : (c : After-shared_slice_known) → List ℕ
ws c = c.args.ws.now

abbrev text : (c : After-shared_slice_known) → List ℕ
text c = planned_text (ws c) c.args.p

abbrev r : (c : After-shared_slice_known) → Wrapped
r c = planned_wraps c.args.p

abbrev width : (c : After-shared_slice_known) → ℕ
width c = c.args.p.width

abbrev header : (c : After-shared_slice_known) → List ℕ
header c = text_line (line_header (width c))

abbrev early : (c : After-shared_slice_known) → List ℕ
early c = rows_text (width c) (text c) (run_rows 0 (address_from true (ws c) (r c).place) 0 (r c).count)

abbrev late : (c : After-shared_slice_known) → List ℕ
late c = rows_text (width c) (text c) (walk_rows (ws c) c.args.p.lines (r c).count)

few : (c : After-shared_slice_known) → c.args.p.lines ≤ 2 ^ 64
few c = search rules

short : (c : After-shared_slice_known) → (r c).count ≤ 2 ^ 64
short c = search rules

long : (c : After-shared_slice_known) → length c.args.out.now < 2 ^ 64
long c = search rules

abbrev all : (c : After-shared_slice_known) → List ℕ
all c = line_table (text c) (line_blocks_in (ws c))

parts : (c : After-shared_slice_known) → (all c) ≡ (header c) ++ ((early c) ++ (late c))
parts c =
    table_parts_lem (ws c) (text c) c.args.p.lines (width c) (r c) c.requires.0 c.requires.1.counted (few c) (short c) c.requires.1.wraps
    c.requires.1.wide

-- its rows are those of the plan
abbrev table : (c : After-shared_slice_known) → Table
table c = record {
  text = c.args.p.text;
  n = c.args.p.n;
  width = (width c);
  lines = c.args.p.lines;
  wraps = (r c).count;
}

tiny : (c : After-shared_slice_known) → (table c).n + 1 < 2 ^ 64
tiny c = let h = c.requires.1.short in search rules

many : (c : After-shared_slice_known) → (table c).lines < 2 ^ 64
many c = search rules

wraps : (c : After-shared_slice_known) → (table c).wraps < 2 ^ 64
wraps c = search rules

abbrev rows : (c : After-shared_slice_known) → List Row
rows c = run_rows 0 (address_from true (ws c) (r c).place) 0 (r c).count

first : (c : After-shared_slice_known) → (joined (row_lines (ws c) (table c) (rows c) 0) ≡ (early c)) × At (text c) (0 + (r c).count) (start_past (ws c) (table c) (rows c) 0)
first c =
    run-read (ws c) (table c) (tiny c) 0 (address_from true (ws c) (r c).place) (r c).count 0 (let h = (short c) in omega (arith, h))
    (at_start (text c) c.requires.1.sound)

abbrev state1 : (c : After-put_line_header) → State ℕ
state1 c = record { at = c.put_line_header-len.result; out = c.put_line_header-len.new.out }

emits1 : (c : After-put_line_header) → Emits (all c.before.before) c.args.out.now (early c.before.before ++ late c.before.before) (state1 c)
emits1 c = first-put (header c.before.before) (early c.before.before ++ late c.before.before) c.args.out.now (parts c.before.before) c.requires.2 c.put_line_header-len.ensures

abbrev state2 : (c : After-put_run) → State ℕ
state2 c = after (state1 c.before.before.before.before) c.put_run-rows.result.len c.put_run-rows.new.out

emits2 : (c : After-put_run) → Emits (all c.before.before.before.before.before.before) c.args.out.now (late c.before.before.before.before.before.before) (state2 c)
emits2 c =
    emit (emits1 c.before.before.before.before) (early c.before.before.before.before.before.before) (late c.before.before.before.before.before.before) refl
    (lines-put (row_lines (ws c.before.before.before.before.before.before) (table c.before.before.before.before.before.before) (rows c.before.before.before.before.before.before) 0) (rest (state1 c.before.before.before.before)) c.put_run-rows.new.out c.put_run-rows.result.len (first c.before.before.before.before.before.before).0
    (part_room (emits1 c.before.before.before.before) (early c.before.before.before.before.before.before) (late c.before.before.before.before.before.before) refl) c.put_run-rows.ensures.0)

passed : (c : After-put_run) → At (text c.before.before.before.before.before.before) (smaller (r c.before.before.before.before.before.before).count c.args.p.lines) c.put_run-rows.result.start
passed c =
    wrapped_passed (ws c.before.before.before.before.before.before) (text c.before.before.before.before.before.before) c.args.p.lines (width c.before.before.before.before.before.before) (r c.before.before.before.before.before.before) c.requires.0 c.requires.1.counted (few c.before.before.before.before.before.before) (short c.before.before.before.before.before.before)
    c.requires.1.wraps c.requires.1.wide c.put_run-rows.result.start
    (subst (At (text c.before.before.before.before.before.before) (0 + (r c.before.before.before.before.before.before).count)) (sym c.put_run-rows.ensures.1) (first c.before.before.before.before.before.before).1)

walked : (c : After-put_run) → joined (row_lines (ws c.before.before.before.before.before.before) (table c.before.before.before.before.before.before) (placed_rows (ws c.before.before.before.before.before.before) (table c.before.before.before.before.before.before).lines (table c.before.before.before.before.before.before).wraps
    (smaller (table c.before.before.before.before.before.before).wraps (table c.before.before.before.before.before.before).lines) (heads (ws c.before.before.before.before.before.before) c.args.p.first)) c.put_run-rows.result.start)
    ≡ late c.before.before.before.before.before.before
walked c =
    records_read (ws c.before.before.before.before.before.before) (table c.before.before.before.before.before.before) (tiny c.before.before.before.before.before.before) c.requires.1.counted (many c.before.before.before.before.before.before) (wraps c.before.before.before.before.before.before) c.requires.0 c.args.p.first
    c.put_run-rows.result.start c.requires.1.past (passed c)

abbrev state3 : (c : After-put_line_records) → State ℕ
state3 c = after (state2 c.before.before.before.before.before) c.put_line_records.result c.put_line_records.new.out

emits3 : (c : After-put_line_records) → Emits (all c.before.before.before.before.before.before.before.before.before.before.before) c.args.out.now [] (state3 c)
emits3 c =
    let nil = sym (append-nil (late c.before.before.before.before.before.before.before.before.before.before.before)) in
    emit (emits2 c.before.before.before.before.before) (late c.before.before.before.before.before.before.before.before.before.before.before) [] nil
    (lines-put (row_lines (ws c.before.before.before.before.before.before.before.before.before.before.before) (table c.before.before.before.before.before.before.before.before.before.before.before) (placed_rows (ws c.before.before.before.before.before.before.before.before.before.before.before) (table c.before.before.before.before.before.before.before.before.before.before.before).lines (table c.before.before.before.before.before.before.before.before.before.before.before).wraps
    (smaller (table c.before.before.before.before.before.before.before.before.before.before.before).wraps (table c.before.before.before.before.before.before.before.before.before.before.before).lines) (heads (ws c.before.before.before.before.before.before.before.before.before.before.before) c.args.p.first)) c.put_run-rows.result.start)
    (rest (state2 c.before.before.before.before.before)) c.put_line_records.new.out c.put_line_records.result (walked c.before.before.before.before.before) (part_room (emits2 c.before.before.before.before.before) (late c.before.before.before.before.before.before.before.before.before.before.before) [] nil)
    c.put_line_records.ensures)

pub slice_bounds-put_run-count : goal.slice_bounds-put_run-count
slice_bounds-put_run-count c = within (emits1 c.before.before.before)

pub slice_bounds-put_run-start : goal.slice_bounds-put_run-start
slice_bounds-put_run-start c = within (emits1 c.before.before.before)

pub overflow_add-len : goal.overflow_add-len
overflow_add-len c = small (emits2 c.before.before.before.before) (long c.before.before.before.before.before.before.before.before.before.before)

pub slice_bounds-put_line_records-count : goal.slice_bounds-put_line_records-count
slice_bounds-put_line_records-count c = within (emits2 c.before.before.before.before)

pub slice_bounds-put_line_records-start : goal.slice_bounds-put_line_records-start
slice_bounds-put_line_records-start c = within (emits2 c.before.before.before.before)

pub overflow_add-result : goal.overflow_add-result
overflow_add-result c = small (emits3 c.before.before.before) (long c.before.before.before.before.before.before.before.before.before.before.before.before.before.before)

pub returns : goal.returns
returns c = emitted (emits3 c.before.before.before) refl
