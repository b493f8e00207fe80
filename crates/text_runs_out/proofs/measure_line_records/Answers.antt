-- Record by record, then the source's lines past them. Assumes nothing.
use mathlib.Core.Path.{◌≡◌, refl, sym, ap, ◌∙◌}
use mathlib.Core.Bool.{false}
use mathlib.Core.List.{List, ◌++◌}
use Prim.Native.Nat.{ℕ, ◌+◌}
use lib.ListN.{length}
use Rattle.format.specs.TextWriter.{Row}
use Rattle.format.proofs.ListLaws.{flat_map-append}
use Rattle.object.specs.Bodies.{body_at}
use Rattle.measuring.specs.Room.{less_part}
use Rattle.measuring.proofs.RoomLaws.{part-fits, part-short}
use Rattle.text_lines_out.specs.Merge.{smaller}
use Rattle.text_lines_out.specs.Runs.{address_from, run_rows}
use Rattle.text_lines_out.specs.Walk.{record_rows, record_done}
use Rattle.text_parts_out.specs.Parts.{heads}
use Rattle.text_runs_out.specs.Lines.{row_lines, start_past, itself, joined, placed_rows}
use Rattle.text_lines_out.proofs.LineLaws.{min-is}
use Rattle.text_runs_out.proofs.RunLaws.{placed-lines, placed-over}
use Rattle.text_runs_out.proofs.measure_line_records.Goals as goal
use Rattle.text_runs_out.proofs.measure_line_records.Goals.{After-saturating_sub, In-loop-at}

abbrev ws : (c : In-loop-at) → List ℕ
ws c = c.args.ws.now

abbrev at : (c : In-loop-at) → ℕ
at c = c.loop-at.at

abbrev done : (c : In-loop-at) → ℕ
done c = c.loop-at.passed.done

abbrev next : (c : In-loop-at) → ℕ
next c = c.loop-at.passed.start

abbrev own : (c : In-loop-at) → List Row
own c = record_rows (ws c) (at c) c.args.t.lines c.args.t.wraps (done c)

abbrev rows : (c : In-loop-at) → List ℕ
rows c = joined (row_lines (ws c) c.args.t (own c) (next c))

abbrev d : (c : In-loop-at) → ℕ
d c = record_done (ws c) (at c) c.args.t.lines c.args.t.wraps (done c)

abbrev x : (c : In-loop-at) → ℕ
x c = start_past (ws c) c.args.t (own c) (next c)

abbrev later : (c : In-loop-at) → ℕ → ℕ → ℕ → List ℕ
later c n e y = joined (row_lines (ws c) c.args.t (placed_rows (ws c) c.args.t.lines c.args.t.wraps e (heads (ws c) n)) y)

parts : (c : In-loop-at) → (n e y : ℕ) → n ≡ (at c) + 1 + length (body_at (ws c) ((at c) + 1)) → e ≡ (d c) → y ≡ (x c)
    → joined (row_lines (ws c) c.args.t (placed_rows (ws c) c.args.t.lines c.args.t.wraps (done c) (heads (ws c) (at c))) (next c)) ≡ (rows c) ++ (later c) n e y
parts c n e y p q z =
    ap joined (placed-lines (ws c) c.args.t (at c) (done c) (next c) n e y c.loop-at-test.true p q z)
    ∙ flat_map-append itself (row_lines (ws c) c.args.t (own c) (next c))
    (row_lines (ws c) c.args.t (placed_rows (ws c) c.args.t.lines c.args.t.wraps e (heads (ws c) n)) y)

abbrev w : (c : After-saturating_sub) → List ℕ
w c = c.args.ws.now

abbrev last : (c : After-saturating_sub) → List Row
last c = run_rows c.loop-at.passed.done (address_from false (w c) 0) 0 c.saturating_sub.result

rest_is : (c : After-saturating_sub) → less_part c.loop-at.passed.left (joined (row_lines (w c) c.args.t (last c) c.loop-at.passed.start))
    ≡ less_part c.args.room (joined (row_lines (w c) c.args.t
    (placed_rows (w c) c.args.t.lines c.args.t.wraps (smaller c.args.t.wraps c.args.t.lines) (heads (w c) c.args.from))
    c.args.start))
rest_is c =
    ap (λ (rs : List Row). less_part c.loop-at.passed.left (joined (row_lines (w c) c.args.t rs c.loop-at.passed.start)))
    (ap (run_rows c.loop-at.passed.done (address_from false (w c) 0) 0) c.saturating_sub.ensures
    ∙ sym (placed-over (w c) c.args.t c.loop-at.at c.loop-at.passed.done c.loop-at.passed.start c.loop-at-test.false))
    ∙ c.loop-at.invariant

pub loop-at-init : goal.loop-at-init
loop-at-init c =
    let a = c.args in
    ap (λ (e : ℕ). less_part a.room (joined (row_lines a.ws.now a.t (placed_rows a.ws.now a.t.lines a.t.wraps e (heads a.ws.now a.from)) a.start)))
    (c.min.ensures ∙ min-is a.t.wraps a.t.lines)

pub returns-in_err-passed : goal.returns-in_err-passed
returns-in_err-passed c =
    let l = (goal.at.returns-in_err-passed c).In-loop-at in
    let n : ℕ = at l + 1 + length (body_at (ws l) (at l + 1)) in
    rw c.from_residual.ensures
    (part-short c.loop-at.passed.left (rows l) (later l n (d l) (x l)) (parts l n (d l) (x l) refl refl refl) c.in_err-passed.ensures
    ∙ c.loop-at.invariant)

pub loop-at-preserved : goal.loop-at-preserved
loop-at-preserved c =
    let l = (goal.at.loop-at-preserved c).In-loop-at in
    let e : ℕ = c.in_ok-passed.passed.done in
    let y : ℕ = c.in_ok-passed.passed.start in
    let told = c.in_ok-passed.ensures in
    part-fits c.loop-at.passed.left (rows l) (later l c.body_end-at.result e y)
    (parts l c.body_end-at.result e y c.body_end-at.ensures told.2 told.1) told.0
    ∙ c.loop-at.invariant

pub returns-in_err-rows : goal.returns-in_err-rows
returns-in_err-rows c =
    rw c.from_residual-in_err-rows.ensures (c.in_err-rows.ensures ∙ rest_is (goal.at.returns-in_err-rows c).After-saturating_sub)

pub returns : goal.returns
returns c = c.in_ok-rows.ensures.0 ∙ rest_is (goal.at.returns c).After-saturating_sub
