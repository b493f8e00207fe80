-- The gap's run, then the block's. Assumes nothing.
use mathlib.Core.Path.{◌≡◌, refl, sym, ap, ◌∙◌}
use mathlib.Core.Bool.{false}
use mathlib.Core.List.{List, [], ◌++◌, append-nil, flat_map}
use Prim.Native.Nat.{ℕ}
use Rattle.format.specs.TextWriter.{Row}
use Rattle.object.specs.Access.{kind_at}
use Rattle.measuring.specs.Room.{less_part}
use Rattle.measuring.proofs.RoomLaws.{less-nothing, part-fits, part-short}
use Rattle.text_lines_out.specs.Runs.{address_from, run_rows, rows_of}
use Rattle.text_lines_out.specs.Walk.{record_rows}
use Rattle.text_runs_out.specs.Lines.{row_lines, start_past, joined}
use borrow.Author.Tests.{not-true, not-false}
use Rattle.object.specs.declared.Kind.TheVariants as kind
use Rattle.object.proofs.KindLaws.{number_is, number_not}
use Rattle.text_runs_out.proofs.RunLaws.{record_other, record_runs, record_past, joined-append, start-append, lines_none, start_none}
use Rattle.text_runs_out.proofs.measure_line_record.Goals as goal
use Rattle.text_runs_out.proofs.measure_line_record.Goals.{After-plan_block-plan}

-- a line block's runs
abbrev all : After-plan_block-plan → List Row
all c = record_rows c.args.ws.now c.args.at c.args.t.lines c.args.t.wraps c.args.done

abbrev gap : After-plan_block-plan → List Row
gap c = run_rows c.args.done (address_from false c.args.ws.now 0) 0 c.plan_block-plan.result.gap

abbrev own : After-plan_block-plan → List Row
own c = rows_of c.args.ws.now c.plan_block-plan.result.own

abbrev on : After-plan_block-plan → ℕ
on c = start_past c.args.ws.now c.args.t (gap c) c.args.start

kind_is : (c : After-plan_block-plan) → kind_at c.args.ws.now c.args.at ≡ 3
kind_is c = number_is c.of.result kind.LineBlock _ c.of.ensures (sym (not-false _ (sym c.if-ne.ensures)))

runs : (c : After-plan_block-plan) → all c ≡ gap c ++ own c
runs c =
    record_runs c.args.ws.now c.args.at c.args.t.lines c.args.t.wraps c.args.done (kind_is c) c.plan_block-plan.result
    c.plan_block-plan.ensures

abbrev first : After-plan_block-plan → List ℕ
first c = joined (row_lines c.args.ws.now c.args.t (gap c) c.args.start)

abbrev second : After-plan_block-plan → ℕ → List ℕ
second c x = joined (row_lines c.args.ws.now c.args.t (own c) x)

whole : (c : After-plan_block-plan) (x : ℕ) → x ≡ on c
    → joined (row_lines c.args.ws.now c.args.t (all c) c.args.start) ≡ first c ++ second c x
whole c x e =
    ap (λ (rs : List Row). joined (row_lines c.args.ws.now c.args.t rs c.args.start)) (runs c)
    ∙ joined-append c.args.ws.now c.args.t (gap c) (own c) c.args.start ∙ ap (λ (y : ℕ). first c ++ second c y) (sym e)

pub returns-then-ne : goal.returns-then-ne
unfolding flat_map
returns-then-ne c =
    let a = c.args in
    let w = a.ws.now in
    let o = record_other w a.at a.t.lines a.t.wraps a.done (number_not c.of.result kind.LineBlock _ c.of.ensures (sym (not-true _ (sym c.if-ne.ensures)))) in (
      less-nothing a.room
          ∙ ap (λ (r : List (List ℕ)). less_part a.room (joined r))
          (sym (ap (λ (rs : List Row). row_lines w a.t rs a.start) o.0 ∙ lines_none w a.t a.start)),
      sym (ap (λ (rs : List Row). start_past w a.t rs a.start) o.0 ∙ start_none w a.t a.start),
      sym o.1,
    )

pub returns-in_err-before : goal.returns-in_err-before
returns-in_err-before c =
    let p = (goal.at.returns-in_err-before c).After-plan_block-plan in
    rw c.from_residual.ensures (part-short c.args.room (first p) (second p (on p)) (whole p (on p) refl) c.in_err-before.ensures)

pub returns-in_err-block : goal.returns-in_err-block
returns-in_err-block c =
    let q = (goal.at.returns-in_err-block c).After-plan_block-plan in
    let x = c.in_ok-before.before.start in
    let told = c.in_ok-before.ensures in
    rw c.from_residual-in_err-block.ensures
    (part-short c.in_ok-before.before.left (second q x) [] (sym (append-nil (second q x))) c.in_err-block.ensures
    ∙ part-fits c.args.room (first q) (second q x) (whole q x told.1) told.0)

pub returns : goal.returns
returns c =
    let q = (goal.at.returns c).After-plan_block-plan in
    let a = c.args in
    let ws = a.ws.now in
    let x = c.in_ok-before.before.start in
    let told = c.in_ok-before.ensures in
    let t = c.in_ok-block.ensures in (
      t.0 ∙ part-fits a.room (first q) (second q x) (whole q x told.1) told.0,
      t.1 ∙ ap (start_past ws a.t (own q)) told.1 ∙ sym (start-append ws a.t (gap q) (own q) a.start)
          ∙ sym (ap (λ (rs : List Row). start_past ws a.t rs a.start) (runs q)),
      record_past ws a.at a.t.lines a.t.wraps a.done (kind_is q) c.plan_block-plan.result c.plan_block-plan.ensures,
    )
