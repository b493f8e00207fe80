-- The runs of a line table's rows, a row more. Assumes nothing.
use Rattle.std.proofs.Common.{◌≡◌, ℕ, ◌+◌, ◌%◌, ◌^◌, ◌≤◌, List, [], map, sym, ap, ◌∙◌, arith, eq-eqb, ne_eqb}
use Rattle.std.specs.Prelude as std
use mathlib.Core.Option.{Option, none, some}
use Rattle.format.specs.Basics.{and_then}
use Rattle.trim.specs.Span.{part}
use Rattle.text_lines.specs.Views.{StepAt}
use Rattle.text_tables.specs.declared.LineRow.{LineRow}
use Rattle.text_tables.specs.Debug.{Groups, line_view}
use Rattle.text_tables.specs.LineRows.{line_in, line_of}
use Rattle.text_debug.specs.declared.Runs.{Runs}
use Rattle.text_debug.specs.LineRuns.{address_in, row_address, run_on, words_after, run_end, run_next, runs_over}

pub words-none : (words count : ℕ) → count ≡ 0 → words ≡ words_after words count
unfolding words_after
words-none words count e = simp (eq-eqb count 0 e)

pub words_some : (words count : ℕ) → (count ≡ 0 → ⊥) → (words + (4 + count)) % 2 ^ 64 ≡ words_after words count
unfolding words_after
words_some words count e = simp (ne_eqb count 0 e)

-- a row, as it was read
pub row_next : (l : List ℕ) (row : std.Option LineRow) → line_of row ≡ line_in l → (s r : Runs) → r ≡ run_next s (row_address row) → r ≡ run_next s (address_in l)
unfolding address_in
row_next l row e s r q = q ∙ ap (λ (x : Option (ℕ × Option ℕ)). run_next s (and_then x λ p. p.1)) e

pub count-on : (s r : Runs) (o : Option ℕ) → r ≡ run_next s o → r.count ≤ s.count + 1
unfolding run_on run_end
count-on s r none e = omega (arith, ap (λ (x : Runs). x.count) e)
count-on s r (some a) e = omega (arith, ap (λ (x : Runs). x.count) e)

-- the same runs from here
pub runs_on : (t : List ℕ) (at a e n : ℕ) → StepAt (line_view t) t at a e n → (s r : Runs) → r ≡ run_next s (address_in (part a e t))
    → runs_over r (map address_in (line_view t n).0) ≡ runs_over s (map address_in (line_view t at).0)
unfolding runs_over
runs_on t at a e n l s r q =
    ap (λ (x : Runs). runs_over x (map address_in (line_view t n).0)) q
    ∙ sym (ap (λ (p : List (List ℕ) × Groups). runs_over s (map address_in p.0)) l.same)

pub runs_done : (t : List ℕ) (at : ℕ) → (line_view t at).0 ≡ [] → (s : Runs) → s ≡ runs_over s (map address_in (line_view t at).0)
unfolding runs_over
runs_done t at e s = sym (ap (λ (ls : List (List ℕ)). runs_over s (map address_in ls)) e)
