-- Record by record, then the source's lines past them. Assumes nothing.
use borrow.Author.Rules.{rules}
use mathlib.Core.Path.{◌≡◌, refl, sym, ap, subst, ◌∙◌}
use mathlib.Core.Bool.{false}
use mathlib.Core.List.{List, [], ◌++◌}
use Prim.Native.Nat.{ℕ, ◌+◌, ◌-◌, ◌^◌, ◌<◌}
use lib.ListN.{length}
use Rattle.format.specs.TextWriter.{Row}
use Rattle.object.specs.Bodies.{body_at}
use Rattle.writing.proofs.Parts.{Emits, after, emitted, small}
use Rattle.measuring.specs.Fitting.{fitting}
use Rattle.measuring.proofs.FittingLaws.{fill_begin, fill_more, fill-last}
use Rattle.text_lines_out.specs.Merge.{smaller}
use Rattle.text_lines_out.specs.Runs.{address_from, run_rows}
use Rattle.text_lines_out.specs.Walk.{record_rows}
use Rattle.text_parts_out.specs.Parts.{heads}
use Rattle.text_runs_out.specs.Lines.{row_lines, itself, placed_rows}
use Rattle.text_lines_out.proofs.LineLaws.{min-is}
use Rattle.text_runs_out.proofs.RunLaws.{placed-lines, placed-over}
use Rattle.text_runs_out.proofs.put_line_records.Lts as lts
use Rattle.text_runs_out.proofs.put_line_records.Reads as reads
use Rattle.text_runs_out.proofs.put_line_records.Tie as tie
use Rattle.text_runs_out.proofs.put_line_records.Goals as goal

abbrev After-put_run : Type 0
After-put_run = lts.After-put_run tie.the-claims reads.Pre reads.Post goal.the-invariant-loop-at goal.the-decreases-loop-at

abbrev After-body_end : Type 0
After-body_end = lts.After-body_end tie.the-claims reads.Pre reads.Post goal.the-invariant-loop-at goal.the-decreases-loop-at

abbrev After-put_line_record : Type 0
After-put_line_record = lts.After-put_line_record tie.the-claims reads.Pre reads.Post goal.the-invariant-loop-at goal.the-decreases-loop-at

abbrev Start : Type 0
Start = lts.Start tie.the-claims reads.Pre reads.Post goal.the-invariant-loop-at goal.the-decreases-loop-at

abbrev ws : (s : Start) → List ℕ
ws s = s.args.ws.now

abbrev room : (s : Start) → List ℕ
room s = s.args.out.now

abbrev lines_from : (s : Start) → ℕ → ℕ → ℕ → List (List ℕ)
lines_from s n e y = row_lines (ws s) s.args.t (placed_rows (ws s) s.args.t.lines s.args.t.wraps e (heads (ws s) n)) y

abbrev all : (s : Start) → List ℕ
all s = fitting itself (length (room s)) ((lines_from s) s.args.from (smaller s.args.t.wraps s.args.t.lines) s.args.start)

abbrev at : (c : After-body_end) → ℕ
at c = c.loop-at.at

abbrev done : (c : After-body_end) → ℕ
done c = c.loop-at.done

abbrev next : (c : After-body_end) → ℕ
next c = c.loop-at.next

parts : (c : After-put_line_record) → let o = c.loop-at in
    (n : ℕ) → n ≡ o.at + 1 + length (body_at (ws c.before.before.before.before.before.before.before) (o.at + 1))
    → lines_from c.before.before.before.before.before.before.before o.at o.done o.next
    ≡ row_lines (ws c.before.before.before.before.before.before.before) c.args.t (record_rows (ws c.before.before.before.before.before.before.before) o.at c.args.t.lines c.args.t.wraps o.done) o.next
    ++ lines_from c.before.before.before.before.before.before.before n c.put_line_record-rows.result.done c.put_line_record-rows.result.start
parts c n e =
    let o = c.loop-at in
    placed-lines (ws c.before.before.before.before.before.before.before) c.args.t o.at o.done o.next n c.put_line_record-rows.result.done c.put_line_record-rows.result.start
    c.loop-at-test.true e c.put_line_record-rows.ensures.2 c.put_line_record-rows.ensures.1

emits : (c : After-put_line_record) → let o = c.loop-at in
    (n : ℕ) → n ≡ o.at + 1 + length (body_at (ws c.before.before.before.before.before.before.before) (o.at + 1))
    → Emits (all c.before.before.before.before.before.before.before) (room c.before.before.before.before.before.before.before)
    (fitting itself (length (room c.before.before.before.before.before.before.before) - (o.len + c.put_line_record-rows.result.len))
    (lines_from c.before.before.before.before.before.before.before n c.put_line_record-rows.result.done c.put_line_record-rows.result.start))
    (after (record { at = o.len; out = o.out }) c.put_line_record-rows.result.len c.put_line_record-rows.new.out)
emits c n e =
    let o = c.loop-at in
    fill_more o.invariant itself
    (row_lines (ws c.before.before.before.before.before.before.before) c.args.t (record_rows (ws c.before.before.before.before.before.before.before) o.at c.args.t.lines c.args.t.wraps o.done) o.next)
    (lines_from c.before.before.before.before.before.before.before n c.put_line_record-rows.result.done c.put_line_record-rows.result.start) c.put_line_record-rows.new.out
    c.put_line_record-rows.result.len (ap (fitting itself (length (room c.before.before.before.before.before.before.before) - o.len)) (parts c n e)) c.put_line_record-rows.ensures.0

tight : (c : After-put_line_record) → length (room c.before.before.before.before.before.before.before) < 2 ^ 64
tight c = search rules

abbrev last : (c : After-put_run) → List Row
last c = run_rows c.loop-at.done (address_from false (ws c.before.before.before.before.before.before.before.before) 0) 0 c.saturating_sub.result

last_is : (c : After-put_run) → lines_from c.before.before.before.before.before.before.before.before c.loop-at.at c.loop-at.done c.loop-at.next ≡ row_lines (ws c.before.before.before.before.before.before.before.before) c.args.t (last c) c.loop-at.next
last_is c =
    ap (λ (rs : List Row). row_lines (ws c.before.before.before.before.before.before.before.before) c.args.t rs c.loop-at.next)
    (placed-over (ws c.before.before.before.before.before.before.before.before) c.args.t c.loop-at.at c.loop-at.done c.loop-at.next c.loop-at-test.false
    ∙ ap (run_rows c.loop-at.done (address_from false (ws c.before.before.before.before.before.before.before.before) 0) 0) (sym c.saturating_sub.ensures))

emits_last : (c : After-put_run) → Emits (all c.before.before.before.before.before.before.before.before) (room c.before.before.before.before.before.before.before.before) [] (after (record { at = c.loop-at.len; out = c.loop-at.out }) c.put_run-last.result.len c.put_run-last.new.out)
emits_last c =
    fill-last itself (row_lines (ws c.before.before.before.before.before.before.before.before) c.args.t (last c) c.loop-at.next) c.loop-at.invariant c.put_run-last.new.out c.put_run-last.result.len
    (ap (fitting itself (length (room c.before.before.before.before.before.before.before.before) - c.loop-at.len)) (last_is c)) c.put_run-last.ensures.0

tight_last : (c : After-put_run) → length (room c.before.before.before.before.before.before.before.before) < 2 ^ 64
tight_last c = search rules

pub loop-at-init : goal.loop-at-init
loop-at-init c =
    subst (λ (e : ℕ). Emits (all c.before.before.before.before) (room c.before.before.before.before) (fitting itself (length (room c.before.before.before.before) - 0) (lines_from c.before.before.before.before c.args.from e c.args.start))
    (record { at = 0; out = room c.before.before.before.before })) (sym (c.min-done.ensures ∙ min-is _ _))
    (fill_begin itself (lines_from c.before.before.before.before c.args.from (smaller c.args.t.wraps c.args.t.lines) c.args.start) (room c.before.before.before.before))

pub overflow_add-len : goal.overflow_add-len
overflow_add-len c = small (emits c.before.before.before.before _ refl) (tight c.before.before.before.before)

pub loop-at-preserved : goal.loop-at-preserved
loop-at-preserved c = emits c.before.before.before.before.before c.body_end-at.result c.body_end-at.ensures

pub overflow_add-result : goal.overflow_add-result
overflow_add-result c = small (emits_last c.before.before.before.before) (tight_last c.before.before.before.before)

pub returns : goal.returns
returns c = emitted (emits_last c.before.before.before.before) refl
