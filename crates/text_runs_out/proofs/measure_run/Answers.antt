-- Row by row, in the room that is left. Assumes nothing.
use mathlib.Core.Path.{◌≡◌, refl, sym, ap, ◌∙◌}
use mathlib.Core.List.{List, ◌++◌, flat_map}
use mathlib.Core.Option.{Option}
use Prim.Native.Nat.{ℕ, ◌+◌, ◌-◌, ◌%◌, ◌^◌}
use Rattle.format.specs.TextWriter.{Row}
use Rattle.text_numerals.specs.Memory.{word_of}
use Rattle.measuring.specs.Room.{less_part}
use Rattle.measuring.proofs.RoomLaws.{less-nothing, part-fits, part-short}
use Rattle.text_lines_out.specs.Runs.{addresses_of, run_rows, source_of}
use Rattle.text_runs_out.specs.Lines.{next_start, line_at, row_line, row_lines, start_past, joined}
use Rattle.text_runs_out.proofs.RunLaws.{run-lines, run-start, run-lines-over, run-start-over}
use Rattle.text_runs_out.proofs.measure_run.Goals as goal
use Rattle.text_runs_out.proofs.measure_run.Goals.{After-row}

abbrev ws : (c : After-row) → List ℕ
ws c = c.args.ws.now

abbrev f : (c : After-row) → ℕ → Option ℕ
f c = addresses_of c.args.run.place (ws c)

abbrev k : (c : After-row) → ℕ
k c = c.loop-k.k

abbrev at : (c : After-row) → ℕ
at c = c.loop-k.rows.start

abbrev part : (c : After-row) → List ℕ
part c = line_at (ws c) c.args.t c.row.result.number (word_of c.row.result.address) (at c)

abbrev on : (c : After-row) → ℕ
on c = next_start (source_of (ws c) c.args.t) (at c)

abbrev later : (c : After-row) → List Row
later c = run_rows c.args.run.first (f c) ((k c) + 1) (c.args.run.count - ((k c) + 1))

abbrev left : (c : After-row) → ℕ → List ℕ
left c x = joined (row_lines (ws c) c.args.t (later c) x)

same : (c : After-row) → (part c) ≡ row_line (ws c) c.args.t (c.args.run.first + (k c)) ((f c) (k c)) (at c)
same c =
    ap (λ (i : ℕ). line_at (ws c) c.args.t i (word_of c.row.result.address) (at c)) c.row.ensures.0
    ∙ ap (λ (o : Option ℕ). line_at (ws c) c.args.t ((c.args.run.first + k c) % 2 ^ 64) o (at c)) c.row.ensures.1

next : (c : After-row) → (x : ℕ) → x ≡ (on c)
    → joined (row_lines (ws c) c.args.t (run_rows c.args.run.first (f c) (k c) (c.args.run.count - (k c))) (at c)) ≡ (part c) ++ (left c) x
unfolding flat_map
next c x e =
    ap joined (run-lines (ws c) c.args.t c.args.run.first (f c) (k c) c.args.run.count (at c) c.loop-k-test.true)
    ∙ ap (λ (r : List ℕ). r ++ (left c) (on c)) (sym (same c)) ∙ ap (λ (y : ℕ). (part c) ++ (left c) y) (sym e)

pub returns-in_err-rows : goal.returns-in_err-rows
returns-in_err-rows c =
    let o = c.loop-k in
    let r = (goal.at.returns-in_err-rows c).After-row in
    rw c.from_residual.ensures (part-short o.rows.left (part r) (left r (on r)) (next r (on r) refl) c.in_err-rows.ensures ∙ o.invariant.0)

pub loop-k-preserved : goal.loop-k-preserved
loop-k-preserved c =
    let o = c.loop-k in
    let r = (goal.at.loop-k-preserved c).After-row in
    let x : ℕ = c.in_ok-rows.rows.start in
    let told = c.in_ok-rows.ensures in (
      part-fits o.rows.left (part r) (left r x) (next r x told.1) told.0 ∙ o.invariant.0,
      ap (start_past (ws r) c.args.t (later r)) told.1
          ∙ sym (run-start (ws r) c.args.t c.args.run.first (f r) (k r) c.args.run.count (at r) c.loop-k-test.true)
          ∙ o.invariant.1,
    )

pub returns : goal.returns
unfolding flat_map
returns c = let o = c.loop-k in
    let a = c.args in
    let w = a.ws.now in
    let f = addresses_of a.run.place w in (
      less-nothing o.rows.left
          ∙ ap (λ (r : List (List ℕ)). less_part o.rows.left (joined r))
          (sym (run-lines-over w a.t a.run.first f o.k a.run.count o.rows.start c.loop-k-test.false))
          ∙ o.invariant.0,
      sym (run-start-over w a.t a.run.first f o.k a.run.count o.rows.start c.loop-k-test.false) ∙ o.invariant.1,
    )
