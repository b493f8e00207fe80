-- Row by row: the same number and the same runs from here. Assumes nothing.
use Rattle.std.proofs.Common.{◌≡◌, eqb, sym, refl, ap, ◌∙◌, arith, eq-eqb, ne_eqb}
use Rattle.std.specs.Prelude.{Some}
use Rattle.trim.specs.Span.{part}
use Rattle.text_tables.specs.LineRows.{line_in, is_line}
use Rattle.text_tables.proofs.LineRowLaws.{lines-on, lines-bad, lines-done}
use Rattle.text_debug.specs.declared.Runs.{Runs}
use Rattle.text_debug.specs.LineRuns.{address_in}
use Rattle.text_debug.proofs.RunLaws.{row_next, count-on, runs_on, runs_done}
use Rattle.text_debug.proofs.parse_line_rows.Goals as goal
use Rattle.text_debug.proofs.parse_line_rows.Goals.{In-Some-parse_line_row}

-- the row reads, and its number decides
numbered : (c : In-Some-parse_line_row) → is_line c.loop-line.i (line_in (part c.in-Some.line.start c.in-Some.line.end c.args.t.now))
    ≡ eqb c.in-Some-parse_line_row.row.number c.loop-line.i
numbered c = sym (ap (is_line c.loop-line.i) c.in-Some-parse_line_row.ensures)

pub loop-line-init : goal.loop-line-init
loop-line-init c = (omega arith, omega arith, refl, refl)

pub returns : goal.returns
returns c =
    let t = c.args.t.now in
    let l = c.loop-line in
    let d = c.in_default.ensures in
    let e = runs_done t l.at d l.s ∙ l.invariant.3 in
    (lines-done t l.at l.i d ∙ l.invariant.2, λ z. (ap (λ (x : Runs). x.words) e, ap (λ (x : Runs). x.rise) e))

pub returns-in_default-parse_line_row : goal.returns-in_default-parse_line_row
returns-in_default-parse_line_row c =
    let l = c.loop-line in (
      lines-bad _ _ _ _ _ c.in-Some.ensures l.i (sym (ap (is_line l.i) c.in_default-parse_line_row.ensures)) ∙ l.invariant.2,
      λ z. absurd (omega (arith, z)),
    )

pub returns-then-row-i : goal.returns-then-row-i
returns-then-row-i c =
    let l = c.loop-line in
    let n = numbered (goal.at.returns-then-row-i c).In-Some-parse_line_row in (
      lines-bad _ _ _ _ _ c.in-Some.ensures l.i (n ∙ ne_eqb _ _ c.if-row-i.true) ∙ l.invariant.2,
      λ z. absurd (omega (arith, z)),
    )

pub run_next-s-requires : goal.run_next-s-requires
run_next-s-requires c =
    let s = c.in-Some.ensures in
    omega (arith, c.loop-line.invariant.0, c.loop-line.invariant.1, s.on, s.next)

pub overflow_add-i : goal.overflow_add-i
overflow_add-i c =
    let s = c.in-Some.ensures in
    omega (arith, c.loop-line.invariant.0, s.on, s.next)

pub loop-line-preserved : goal.loop-line-preserved
loop-line-preserved c =
    let there = part c.in-Some.line.start c.in-Some.line.end c.args.t.now in
    let l = c.loop-line in
    let v = l.invariant in
    let s = c.in-Some.ensures in
    let n = numbered (goal.at.loop-line-preserved c).In-Some-parse_line_row in
    let r = row_next there (Some c.in-Some-parse_line_row.row) c.in-Some-parse_line_row.ensures l.s c.run_next-s.result c.run_next-s.ensures in (
      omega (arith, v.0, s.on),
      omega (arith, v.1, count-on l.s c.run_next-s.result (address_in there) r),
      lines-on _ _ _ _ _ s l.i (n ∙ eq-eqb _ _ c.if-row-i.false) ∙ v.2,
      runs_on _ _ _ _ _ s l.s c.run_next-s.result r ∙ v.3,
    )
