-- Question by question. Assumes nothing.
use Rattle.std.proofs.Common.{ℕ, List, not, refl, ap, ◌∙◌, arith}
use Rattle.std.specs.Prelude.{Ok, Err}
use Rattle.std.proofs.lemmas.Result.{err_from_is_err_and}
use Rattle.units.specs.Refusal.{measured_of}
use Rattle.units.proofs.RefusalLaws.{number_of-above}
use Rattle.text_source.specs.Stream.{source_from}
use Rattle.text_tables.specs.Debug.{line_view}
use Rattle.text_debug.specs.LineRuns.{rows_view}
use Rattle.text_debug.proofs.LineTableLaws.{some-row, no-row, rows-bad, rows_none, rows_again, rows-escape, rows-source}
use Rattle.text_debug.proofs.parse_rows.Goals as goal

abbrev rows : List ℕ → ℕ → List (List ℕ)
rows t from = (line_view t from).0

pub returns-in_err-n : goal.returns-in_err-n
returns-in_err-n c =
    let w = err_from_is_err_and c.from_residual.result c.from_residual.ensures.1 in
    let r = c.in_err-n.field-0.0 in
    rw (w.1 ∙ ap Err w.2)
    (rows-bad (rows c.args.t.now c.args.from) c.args.sourced _ c.in_err-n.ensures.0 (λ z. omega (arith, z, number_of-above r)))

pub returns-then-is_none : goal.returns-then-is_none
returns-then-is_none c =
    rw c.no_lines.ensures
    (rows_none _ _ c.in_ok-n.ensures.0
    (no-row c.args.t.now c.args.from c.next_source_line.result c.next_source_line.ensures (c.is_none.ensures ∙ ap not c.if-is_none.true)))

pub returns-then-sourced : goal.returns-then-sourced
returns-then-sourced c =
    rows_again _ _ c.in_ok-n.ensures.0
    (some-row c.args.t.now c.args.from c.next_source_line.result c.next_source_line.ensures (c.is_none.ensures ∙ ap not c.if-is_none.false)) c.if-sourced.true

pub returns-in_err-len : goal.returns-in_err-len
unfolding source_from
returns-in_err-len c =
    let w = err_from_is_err_and c.from_residual-in_err-len.result c.from_residual-in_err-len.ensures.1 in
    let r = c.in_err-len.field-0.0 in
    rw (w.1 ∙ ap Err w.2)
    (rows-escape (rows c.args.t.now c.args.from) c.args.sourced c.in_ok-n.ensures.0
    (some-row c.args.t.now c.args.from c.next_source_line.result c.next_source_line.ensures (c.is_none.ensures ∙ ap not c.if-is_none.false))
    c.if-sourced.false _ c.in_err-len.ensures.0 (λ z. omega (arith, z, number_of-above r)))

pub returns : goal.returns
unfolding source_from
returns c =
    rows-source _ _ c.in_ok-n.ensures.0
    (some-row c.args.t.now c.args.from c.next_source_line.result c.next_source_line.ensures (c.is_none.ensures ∙ ap not c.if-is_none.false))
    c.if-sourced.false (measured_of (Ok c.in_ok-len.len)) c.in_ok-len.ensures (rows_view (Ok c.in_ok-n.n)) c.in_ok-n.ensures refl
