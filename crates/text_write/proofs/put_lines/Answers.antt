-- A divider line, and with a source the line table and another one. Assumes nothing.
use borrow.Author.Rules.{rules}
use mathlib.Core.Path.{refl, sym, ap, subst, ◌∙◌}
use mathlib.Core.List.{List, [], ◌++◌, append-nil}
use Prim.Native.Nat.{ℕ}
use Rattle.format.specs.TextWriter.{line_table, bar_line}
use Rattle.writing.specs.Written.{Put}
use Rattle.writing.proofs.Parts.{State, Emits, rest, after, emit, emitted, within, small}
use Rattle.measuring.proofs.FittingLaws.{first-put, lent_room}
use Rattle.text_lines_out.specs.Walk.{line_blocks_in}
use Rattle.text_write.specs.Groups.{lines_text}
use Rattle.text_write.specs.Layouts.{planned_text, Tabled, SourceOf}
use Rattle.text_write.proofs.put_lines.Goals as goal
use Rattle.text_write.proofs.put_lines.Goals.{In-Some}

tabled : (c : In-Some) → Tabled c.args.ws.now c.in-Some.p
tabled c = subst (SourceOf c.args.ws.now) c.in-Some.is c.requires.2

abbrev table : (c : In-Some) → List ℕ
table c = line_table (planned_text c.args.ws.now c.in-Some.p) (line_blocks_in c.args.ws.now)

abbrev state1 : (c : In-Some) → State ℕ
state1 c = record { at = c.put_bar-n.result; out = c.put_bar-n.new.out }

emits1 : (c : In-Some) → Emits (lines_text c.args.ws.now) c.args.out.now (table c ++ bar_line) (state1 c)
emits1 c =
    first-put bar_line (table c ++ bar_line) c.args.out.now (ap (λ (l : List ℕ). bar_line ++ l) (tabled c).whole) c.requires.1 c.put_bar-n.ensures

-- the table, and the bar after it
module _ {whole room : List ℕ} (t : List ℕ) {s : State ℕ} (f : Emits whole room (t ++ bar_line) s) {r : ℕ} {ys : List ℕ} (p : Put t (rest s) r ys) where
  second : Emits whole room bar_line (after s r ys)
  second = emit f t bar_line refl p

  third : {k : ℕ} {zs : List ℕ} → Put bar_line (rest (after s r ys)) k zs → Emits whole room [] (after (after s r ys) k zs)
  third q = emit second bar_line [] (sym (append-nil bar_line)) q

pub returns-in_default : goal.returns-in_default
returns-in_default c =
    subst (λ (l : List ℕ). Put l c.args.out.now c.put_bar-n.result c.put_bar-n.new.out)
    (sym (ap (λ (l : List ℕ). bar_line ++ l) (subst (SourceOf c.args.ws.now) c.in_default.is c.requires.2) ∙ append-nil bar_line))
    c.put_bar-n.ensures

pub put_line_table-n-requires : goal.put_line_table-n-requires
put_line_table-n-requires c =
    let i = (goal.at.put_line_table-n-requires c).In-Some in
    (c.requires.0, tabled i, lent_room (emits1 i) (table i) bar_line refl)

pub slice_bounds-put_line_table-count : goal.slice_bounds-put_line_table-count
slice_bounds-put_line_table-count c = within (emits1 (goal.at.slice_bounds-put_line_table-count c).In-Some)

pub slice_bounds-put_line_table-start : goal.slice_bounds-put_line_table-start
slice_bounds-put_line_table-start c = within (emits1 (goal.at.slice_bounds-put_line_table-start c).In-Some)

pub overflow_add-n : goal.overflow_add-n
overflow_add-n c = small (second (table (goal.at.overflow_add-n c).In-Some) (emits1 (goal.at.overflow_add-n c).In-Some) c.put_line_table-n.ensures) (search rules)

pub slice_bounds-put_bar-count : goal.slice_bounds-put_bar-count
slice_bounds-put_bar-count c = within (second (table (goal.at.slice_bounds-put_bar-count c).In-Some) (emits1 (goal.at.slice_bounds-put_bar-count c).In-Some) c.put_line_table-n.ensures)

pub slice_bounds-put_bar-start : goal.slice_bounds-put_bar-start
slice_bounds-put_bar-start c = within (second (table (goal.at.slice_bounds-put_bar-start c).In-Some) (emits1 (goal.at.slice_bounds-put_bar-start c).In-Some) c.put_line_table-n.ensures)

pub overflow_add-result : goal.overflow_add-result
overflow_add-result c = small (third (table (goal.at.overflow_add-result c).In-Some) (emits1 (goal.at.overflow_add-result c).In-Some) c.put_line_table-n.ensures c.put_bar.ensures) (search rules)

pub returns : goal.returns
returns c = emitted (third (table (goal.at.returns c).In-Some) (emits1 (goal.at.returns c).In-Some) c.put_line_table-n.ensures c.put_bar.ensures) refl
