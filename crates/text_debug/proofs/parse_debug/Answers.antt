-- Question by question. Assumes nothing.
use Rattle.std.proofs.Common.{◌≡◌, false, sym, ap, ◌∙◌, subst, arith}
use Rattle.std.specs.Prelude.{Err}
use Rattle.std.proofs.lemmas.Result.{err_from_is_err_and}
use Rattle.units.specs.Refusal.{number_of}
use Rattle.units.proofs.RefusalLaws.{number_of-above}
use Rattle.format.specs.Basics.{is_empty}
use mathlib.Core.Option.{none}
use Rattle.format.specs.TextReader.{split_at_bar}
use Rattle.text_tables.specs.Symbols.{place_or}
use Rattle.text_lines.specs.Groups.{parts_from}
use Rattle.text_tables.specs.Debug.{BarAt}
use Rattle.text_debug.proofs.DebugGroupLaws.{is_full, bar_from, no_bar_from, place_of, checked-none, checked-first, checked-last, checked-labels}
use Rattle.text_debug.proofs.parse_debug.Goals as goal
use Rattle.text_debug.proofs.parse_debug.Goals.{After-parse_label_table-labels, After-unwrap_or, In-Some}

full : (c : After-parse_label_table-labels) → is_empty (parts_from c.args.t.now c.args.at).before ≡ false
full c = is_full _ (sym c.has_row.ensures ∙ c.if-not-has_row.false)

-- the place from which the first bar is looked for
from : (c : After-unwrap_or) → c.unwrap_or.result ≡ place_or c.args.at c.parse_label_table-labels.result
from c = c.unwrap_or.ensures ∙ place_of c.args.at c.parse_label_table-labels.result

bar : (c : In-Some) → BarAt c.args.t.now c.args.at c.in-Some.bar
bar c =
    bar_from _ _ _ _ c.parse_label_table-labels.ensures _
    (subst (λ x. BarAt c.args.t.now x c.in-Some.bar) (c.unwrap_or.ensures ∙ place_of c.args.at c.parse_label_table-labels.result) c.in-Some.ensures)

pub returns-then-not-has_row : goal.returns-then-not-has_row
returns-then-not-has_row c = checked-none _ _ _ (sym c.has_row.ensures ∙ c.if-not-has_row.true)

pub returns-in_default : goal.returns-in_default
returns-in_default c =
    let g = goal.at.returns-in_default c in
    checked-first _ _ (full g.After-parse_label_table-labels) _ (no_bar_from _ _ _ _ c.parse_label_table-labels.ensures
    (subst (λ x. (split_at_bar (parts_from c.args.t.now x).before).after ≡ none) (from g.After-unwrap_or) c.in_default.ensures))

pub returns-in_default-last_bar : goal.returns-in_default-last_bar
returns-in_default-last_bar c =
    let g = goal.at.returns-in_default-last_bar c in
    checked-last _ _ (full g.After-parse_label_table-labels) _ _ (bar g.In-Some) c.in_default-last_bar.ensures

pub returns-in_err-labels : goal.returns-in_err-labels
returns-in_err-labels c =
    let g = goal.at.returns-in_err-labels c in
    let w = err_from_is_err_and c.from_residual.result c.from_residual.ensures.1 in
    let r = c.in_err-labels.field-0.0 in
    rw (w.1 ∙ ap Err w.2)
    (checked-labels c.args.t.now c.args.at (full g.After-parse_label_table-labels) _ _ (bar g.In-Some) _ c.in-Some-last_bar.ensures
    (number_of r) c.in_err-labels.ensures.same (λ z. omega (arith, z, number_of-above r)))

pub line_group-requires : goal.line_group-requires
line_group-requires c =
    let g = goal.at.line_group-requires c in
    record { full = full g.After-parse_label_table-labels; first = bar g.In-Some; last = c.in-Some-last_bar.ensures; labels = c.in_ok-labels.ensures.same }
