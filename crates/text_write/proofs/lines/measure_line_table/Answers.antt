-- Header, the rows that wrapped, and those of the walk. Assumes nothing.
use borrow.Author.Rules.{rules}
use native.Mathlib.Omega.{arith}
use mathlib.Core.Path.{◌≡◌, refl, sym, ap, subst, ◌∙◌}
use mathlib.Core.Bool.{true}
use mathlib.Core.List.{List, ◌++◌}
use Prim.Native.Nat.{ℕ, ◌+◌, ◌^◌, ◌≤◌, ◌<◌}
use Rattle.format.specs.TextWriter.{Row, line_table, line_header, text_line}
use Rattle.measuring.specs.Room.{less_part}
use Rattle.measuring.proofs.RoomLaws.{part-fits, part-short}
use Rattle.text_lines_out.specs.Lines.{At, rows_text}
use Rattle.text_lines_out.specs.Merge.{smaller}
use Rattle.text_lines_out.specs.Runs.{address_from, run_rows}
use Rattle.text_lines_out.specs.declared.Table.{Table}
use Rattle.text_lines_out.specs.Walk.{walk_rows, line_blocks_in}
use Rattle.text_lines_out.specs.declared.Wrapped.{Wrapped}
use Rattle.text_lines_out.proofs.LineLaws.{at_start}
use Rattle.text_lines_out.proofs.TableLaws.{table_parts_lem, wrapped_passed}
use Rattle.text_runs_out.specs.Lines.{row_lines, start_past, joined}
use Rattle.format.specs.Calls.{checked}
use Rattle.text_write.specs.declared.lines.Source.{Source}
use Rattle.text_write.specs.Layouts.{planned_text, planned_wraps, Tabled}
use Rattle.text_write.proofs.LineLaws.{run-read, records_read}
use Rattle.text_write.proofs.lines.measure_line_table.Goals as goal
use Rattle.text_write.proofs.lines.measure_line_table.Goals.{In_ok-left}

-- the parts of a plan's table
module _ (ws : List ℕ) (p : Source) where
  abbrev text : List ℕ
  text = planned_text ws p

  abbrev r : Wrapped
  r = planned_wraps p

  abbrev header : List ℕ
  header = text_line (line_header p.width)

  abbrev early : List ℕ
  early = rows_text p.width text (run_rows 0 (address_from true ws r.place) 0 r.count)

  abbrev late : List ℕ
  late = rows_text p.width text (walk_rows ws p.lines r.count)

  -- its rows are those of the plan
  abbrev table : Table
  table = record { text = p.text; n = p.n; width = p.width; lines = p.lines; wraps = r.count }

  abbrev rows : List Row
  rows = run_rows 0 (address_from true ws r.place) 0 r.count

  abbrev on : ℕ
  on = start_past ws table rows 0

  module _ (h : checked ws ≡ 0) (k : Tabled ws p) (few : p.lines ≤ 2 ^ 64) (short : p.count ≤ 2 ^ 64) where
    parts : line_table text (line_blocks_in ws) ≡ header ++ (early ++ late)
    parts = table_parts_lem ws text p.lines p.width r h k.counted few short k.wraps k.wide

    passed : (start : ℕ) → At text (0 + r.count) start → At text (smaller r.count p.lines) start
    passed start a = wrapped_passed ws text p.lines p.width r h k.counted few short k.wraps k.wide start a

    first : p.n + 1 < 2 ^ 64 → (joined (row_lines ws table rows 0) ≡ early) × At text (0 + r.count) on
    first small =
        run-read ws table small 0 (address_from true ws r.place) r.count 0 (omega (arith, short)) (at_start text k.sound)

fits : (c : In_ok-left) (e : line_table (text c.args.ws.now c.args.p) (line_blocks_in c.args.ws.now)
    ≡ header c.args.ws.now c.args.p ++ (early c.args.ws.now c.args.p ++ late c.args.ws.now c.args.p))
    → less_part c.in_ok-left.left (early c.args.ws.now c.args.p ++ late c.args.ws.now c.args.p)
    ≡ less_part c.args.room (line_table (text c.args.ws.now c.args.p) (line_blocks_in c.args.ws.now))
fits c e =
    part-fits c.args.room (header c.args.ws.now c.args.p) (early c.args.ws.now c.args.p ++ late c.args.ws.now c.args.p) e
    c.in_ok-left.ensures

pub returns-in_err-left : goal.returns-in_err-left
returns-in_err-left c =
    let ws = c.args.ws.now in
    let p = c.args.p in
    let few : p.lines ≤ 2 ^ 64 = search rules in
    let short : p.count ≤ 2 ^ 64 = search rules in
    rw c.from_residual.ensures
    (part-short c.args.room (header ws p) (early ws p ++ late ws p) (parts ws p c.requires.0 c.requires.1 few short) c.in_err-left.ensures)

pub returns-in_err-rows : goal.returns-in_err-rows
returns-in_err-rows c =
    let ws = c.args.ws.now in
    let p = c.args.p in
    let few : p.lines ≤ 2 ^ 64 = search rules in
    let short : p.count ≤ 2 ^ 64 = search rules in
    let small : p.n + 1 < 2 ^ 64 = (let h = c.requires.1.short in search rules) in
    let left = c.in_ok-left.left in
    rw c.from_residual-in_err-rows.ensures
    (part-short left (early ws p) (late ws p) refl
    (c.in_err-rows.ensures ∙ ap (less_part left) (first ws p c.requires.0 c.requires.1 few short small).0)
    ∙ fits (goal.at.returns-in_err-rows c).In_ok-left (parts ws p c.requires.0 c.requires.1 few short))

pub returns : goal.returns
returns c =
    let ws = c.args.ws.now in
    let p = c.args.p in
    let few : p.lines ≤ 2 ^ 64 = search rules in
    let short : p.count ≤ 2 ^ 64 = search rules in
    let small : p.n + 1 < 2 ^ 64 = (let h = c.requires.1.short in search rules) in
    let many : p.lines < 2 ^ 64 = search rules in
    let wraps : p.count < 2 ^ 64 = search rules in
    let left = c.in_ok-left.left in
    let next = c.in_ok-rows.rows.start in
    let f = first ws p c.requires.0 c.requires.1 few short small in
    let t = c.in_ok-rows.ensures in
    let past = passed ws p c.requires.0 c.requires.1 few short next
    (subst (At (text ws p) (0 + p.count)) (sym t.1) f.1) in
    c.measure_line_records.ensures
    ∙ ap (less_part c.in_ok-rows.rows.left)
    (records_read ws (table ws p) small c.requires.1.counted many wraps c.requires.0 p.first next c.requires.1.past past)
    ∙ part-fits left (early ws p) (late ws p) refl (t.0 ∙ ap (less_part left) f.0)
    ∙ fits (goal.at.returns c).In_ok-left (parts ws p c.requires.0 c.requires.1 few short)
