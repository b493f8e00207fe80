-- The gap's run, then the block's. Assumes nothing.
use borrow.Author.Rules.{rules}
use mathlib.Core.Path.{◌≡◌, refl, sym, ap, subst, ◌∙◌}
use mathlib.Core.Bool.{false}
use mathlib.Core.List.{List, [], ◌++◌}
use Prim.Native.Nat.{ℕ, ◌-◌}
use lib.ListN.{length}
use Rattle.format.specs.TextWriter.{Row}
use Rattle.object.specs.Access.{kind_at}
use Rattle.writing.specs.Written.{Put}
use Rattle.writing.proofs.Parts.{State, Emits, rest, after, emitted, within, small}
use Rattle.measuring.specs.Fitting.{fitting}
use Rattle.measuring.proofs.FittingLaws.{fill_start, fill-last}
use Rattle.text_lines_out.specs.Runs.{address_from, run_rows, rows_of}
use Rattle.text_lines_out.specs.Walk.{record_rows}
use Rattle.text_lines_out.specs.declared.Plan.{Plan}
use Rattle.text_lines_out.proofs.BlockLaws.{nothing_put}
use Rattle.text_runs_out.specs.Lines.{row_lines, start_past, itself}
use borrow.Author.Tests.{not-true, not-false}
use Rattle.object.specs.declared.Kind.TheVariants as kind
use Rattle.object.proofs.KindLaws.{number_is, number_not}
use Rattle.text_runs_out.proofs.RunLaws.{record_other, record_runs, record_past, lines-append, start-append, lines_none, start_none}
use Rattle.text_runs_out.proofs.put_line_record.Goals as goal
use Rattle.text_runs_out.proofs.put_line_record.Goals.{After-plan_block-plan}

abbrev ws : (c : After-plan_block-plan) → List ℕ
ws c = c.args.ws.now

abbrev room : (c : After-plan_block-plan) → List ℕ
room c = c.args.out.now

abbrev r : (c : After-plan_block-plan) → Plan
r c = c.plan_block-plan.result

kind_is : (c : After-plan_block-plan) → kind_at (ws c) c.args.at ≡ 3
kind_is c = number_is c.of.result kind.LineBlock _ c.of.ensures (sym (not-false _ (sym c.if-ne.ensures)))

abbrev all : (c : After-plan_block-plan) → List Row
all c = record_rows (ws c) c.args.at c.args.t.lines c.args.t.wraps c.args.done

abbrev gap : (c : After-plan_block-plan) → List Row
gap c = run_rows c.args.done (address_from false (ws c) 0) 0 (r c).gap

abbrev own : (c : After-plan_block-plan) → List Row
own c = rows_of (ws c) (r c).own

runs : (c : After-plan_block-plan) → (all c) ≡ (gap c) ++ (own c)
runs c = record_runs (ws c) c.args.at c.args.t.lines c.args.t.wraps c.args.done (kind_is c) (r c) c.plan_block-plan.ensures

abbrev first : (c : After-plan_block-plan) → List (List ℕ)
first c = row_lines (ws c) c.args.t (gap c) c.args.start

abbrev second : (c : After-plan_block-plan) → ℕ → List (List ℕ)
second c x = row_lines (ws c) c.args.t (own c) x

whole : (c : After-plan_block-plan) → (x : ℕ) → x ≡ start_past (ws c) c.args.t (gap c) c.args.start
    → row_lines (ws c) c.args.t (all c) c.args.start ≡ (first c) ++ (second c) x
whole c x e =
    ap (λ (rs : List Row). row_lines (ws c) c.args.t rs c.args.start) (runs c) ∙ lines-append (ws c) c.args.t (gap c) (own c) c.args.start
    ∙ ap (λ (y : ℕ). (first c) ++ (second c) y) (sym e)

-- the gap's run is written
emits1 : (c : After-plan_block-plan) (x : ℕ) {r : ℕ} {ys : List ℕ} → Put (fitting itself (length (room c)) (first c)) (room c) r ys
    → Emits (fitting itself (length (room c)) (first c ++ second c x)) (room c) (fitting itself (length (room c) - r) (second c x))
    (record { at = r; out = ys })
emits1 c x p = fill_start itself (first c) (second c x) (room c) p

-- and the block's
emits2 : (c : After-plan_block-plan) (x : ℕ) {whole : List ℕ} {s : State ℕ} {r : ℕ} {ys : List ℕ}
    → Emits whole (room c) (fitting itself (length (room c) - s.at) (second c x)) s
    → Put (fitting itself (length (rest s)) (second c x)) (rest s) r ys → Emits whole (room c) [] (after s r ys)
emits2 c x {r = r} {ys} f p = fill-last itself (second c x) f ys r refl p

-- of the same rows
same : (room : List ℕ) {k l : List (List ℕ)} {r : ℕ} {ys : List ℕ} → k ≡ l
    → Put (fitting itself (length room) k) room r ys → Put (fitting itself (length room) l) room r ys
same room {r = r} {ys} e p = subst (λ (l : List (List ℕ)). Put (fitting itself (length room) l) room r ys) e p

pub returns-then-ne : goal.returns-then-ne
unfolding fitting
returns-then-ne c =
    let a = c.args in
    let w = a.ws.now in
    let o = record_other w a.at a.t.lines a.t.wraps a.done (number_not c.of.result kind.LineBlock _ c.of.ensures (sym (not-true _ (sym c.if-ne.ensures)))) in (
      nothing_put a.out.now
          (ap (fitting itself (length a.out.now))
          (ap (λ (rs : List Row). row_lines w a.t rs a.start) o.0 ∙ lines_none w a.t a.start)),
      sym (ap (λ (rs : List Row). start_past w a.t rs a.start) o.0 ∙ start_none w a.t a.start),
      sym o.1,
    )

pub slice_bounds-put_run-count : goal.slice_bounds-put_run-count
slice_bounds-put_run-count c =
    within (emits1 (goal.at.slice_bounds-put_run-count c).After-plan_block-plan c.put_run-before.result.start c.put_run-before.ensures.0)

pub slice_bounds-put_run-start : goal.slice_bounds-put_run-start
slice_bounds-put_run-start c =
    within (emits1 (goal.at.slice_bounds-put_run-start c).After-plan_block-plan c.put_run-before.result.start c.put_run-before.ensures.0)

pub overflow_add-result : goal.overflow_add-result
overflow_add-result c =
    let g = (goal.at.overflow_add-result c).After-plan_block-plan in
    let x = c.put_run-before.result.start in
    small (emits2 g x (emits1 g x c.put_run-before.ensures.0) c.put_run-block.ensures.0) (search rules)

pub returns : goal.returns
returns c =
    let a = c.args in
    let g = (goal.at.returns c).After-plan_block-plan in
    let x = c.put_run-before.result.start in (
      same (room g) (sym (whole g x c.put_run-before.ensures.1))
          (emitted (emits2 g x (emits1 g x c.put_run-before.ensures.0) c.put_run-block.ensures.0) refl),
      c.put_run-block.ensures.1 ∙ ap (start_past (ws g) a.t (own g)) c.put_run-before.ensures.1
          ∙ sym (start-append (ws g) a.t (gap g) (own g) a.start)
          ∙ sym (ap (λ (rs : List Row). start_past (ws g) a.t rs a.start) (runs g)),
      record_past (ws g) a.at a.t.lines a.t.wraps a.done (kind_is g) (r g) c.plan_block-plan.ensures,
    )
