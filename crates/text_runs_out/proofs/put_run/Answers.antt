-- Row by row, each that fits. Assumes nothing.
use borrow.Author.Rules.{rules}
use native.Mathlib.Omega.{arith}
use mathlib.Core.Path.{◌≡◌, sym, ap, subst, ◌∙◌}
use mathlib.Core.List.{List, ◌∷◌}
use mathlib.Core.Option.{Option}
use Prim.Native.Nat.{ℕ, ◌+◌, ◌-◌, ◌%◌, ◌^◌, ◌<◌}
use lib.ListN.{length}
use Rattle.format.specs.TextWriter.{Row}
use Rattle.writing.specs.Written.{Put}
use Rattle.writing.proofs.Parts.{Emits, rest, after, emitted, small}
use Rattle.text_numerals.specs.Memory.{word_of}
use Rattle.measuring.specs.Fitting.{fitting}
use Rattle.measuring.proofs.FittingLaws.{fill_begin, fill_one}
use Rattle.text_lines_out.specs.Runs.{addresses_of, run_rows, rows_of}
use Rattle.text_runs_out.specs.Lines.{line_at, row_line, row_lines, start_past, itself}
use Rattle.text_runs_out.proofs.RunLaws.{run-lines, run-start, run-lines-over, run-start-over}
use Rattle.text_runs_out.proofs.put_run.Goals as goal
use Rattle.text_runs_out.proofs.put_run.Goals.{After-put_row-row}

abbrev ws : (c : After-put_row-row) → List ℕ
ws c = c.args.ws.now

abbrev room : (c : After-put_row-row) → List ℕ
room c = c.args.out.now

abbrev f : (c : After-put_row-row) → ℕ → Option ℕ
f c = addresses_of c.args.run.place (ws c)

abbrev k : (c : After-put_row-row) → ℕ
k c = c.loop-k.k

abbrev at : (c : After-put_row-row) → ℕ
at c = c.loop-k.next

abbrev later : (c : After-put_row-row) → List Row
later c = run_rows c.args.run.first (f c) ((k c) + 1) (c.args.run.count - ((k c) + 1))

abbrev line : (c : After-put_row-row) → List ℕ
line c = row_line (ws c) c.args.t (c.args.run.first + (k c)) ((f c) (k c)) (at c)

is_line : (c : After-put_row-row) → line_at (ws c) c.args.t c.row.result.number (word_of c.row.result.address) (at c) ≡ line c
is_line c =
    ap (λ (i : ℕ). line_at (ws c) c.args.t i (word_of c.row.result.address) (at c)) c.row.ensures.0
    ∙ ap (λ (o : Option ℕ). line_at (ws c) c.args.t ((c.args.run.first + k c) % 2 ^ 64) o (at c)) c.row.ensures.1

emits : (c : After-put_row-row) → Emits (fitting itself (length (room c)) (row_lines (ws c) c.args.t (rows_of (ws c) c.args.run) c.args.start)) (room c)
    (fitting itself (length (room c) - (c.loop-k.len + c.put_row-row.result.len)) (row_lines (ws c) c.args.t (later c) c.put_row-row.result.start))
    (after (record { at = c.loop-k.len; out = c.loop-k.out }) c.put_row-row.result.len c.put_row-row.new.out)
emits c =
    fill_one c.loop-k.invariant.0 itself (line c) (row_lines (ws c) c.args.t (later c) c.put_row-row.result.start) c.put_row-row.new.out
    c.put_row-row.result.len
    (ap (fitting itself (length (room c) - c.loop-k.len))
    (run-lines (ws c) c.args.t c.args.run.first (f c) (k c) c.args.run.count (at c) c.loop-k-test.true
    ∙ ap (λ (x : ℕ). (line c) ∷ row_lines (ws c) c.args.t (later c) x) (sym c.put_row-row.ensures.1)))
    (subst (λ (x : List ℕ). Put x (rest (record { at = c.loop-k.len; out = c.loop-k.out })) c.put_row-row.result.len
    c.put_row-row.new.out) (is_line c) c.put_row-row.ensures.0)

tight : (c : After-put_row-row) → length (room c) < 2 ^ 64
tight c = search rules

pub loop-k-init : goal.loop-k-init
loop-k-init c = let a = c.args in
    let w = a.ws.now in
    let f = addresses_of a.run.place w in
    let e : a.run.count ≡ a.run.count - 0 = omega arith in
    let all = fitting itself (length a.out.now) (row_lines w a.t (rows_of w a.run) a.start) in (
      subst (λ (n : ℕ). Emits all a.out.now (fitting itself (length a.out.now - 0) (row_lines w a.t (run_rows a.run.first f 0 n) a.start))
          (record { at = 0; out = a.out.now })) e (fill_begin itself (row_lines w a.t (rows_of w a.run) a.start) a.out.now),
      ap (λ (n : ℕ). start_past w a.t (run_rows a.run.first f 0 n) a.start) (sym e),
    )

pub loop-k-preserved : goal.loop-k-preserved
loop-k-preserved c = (
  emits (goal.at.loop-k-preserved c).After-put_row-row,
  ap (start_past (ws (goal.at.loop-k-preserved c).After-put_row-row) c.args.t (later (goal.at.loop-k-preserved c).After-put_row-row)) c.put_row-row.ensures.1
      ∙ sym (run-start (ws (goal.at.loop-k-preserved c).After-put_row-row) c.args.t c.args.run.first (f (goal.at.loop-k-preserved c).After-put_row-row) (k (goal.at.loop-k-preserved c).After-put_row-row) c.args.run.count (at (goal.at.loop-k-preserved c).After-put_row-row) c.loop-k-test.true)
      ∙ c.loop-k.invariant.1,
)

pub returns : goal.returns
unfolding fitting
returns c = let o = c.loop-k in
    let a = c.args in
    let w = a.ws.now in
    let f = addresses_of a.run.place w in (
      emitted o.invariant.0
          (ap (fitting itself (length a.out.now - o.len))
          (run-lines-over w a.t a.run.first f o.k a.run.count o.next c.loop-k-test.false)),
      sym (run-start-over w a.t a.run.first f o.k a.run.count o.next c.loop-k-test.false) ∙ o.invariant.1,
    )

pub overflow_add-len : goal.overflow_add-len
overflow_add-len c = small (emits (goal.at.overflow_add-len c).After-put_row-row) (tight (goal.at.overflow_add-len c).After-put_row-row)
