-- A group by its kind: the definition's dispatch, and a step of the walk over the groups.
-- Assumes nothing.
use mathlib.Core.Path.{◌≡◌, sym, ap, ◌∙◌}
use mathlib.Core.List.{List}
use Prim.Native.Nat.{ℕ}
use lib.Dec.{eqb}
use Rattle.std.specs.Prelude.{if◌then◌else◌}
use Rattle.format.specs.Basics.{Outcome, refused, ◌>>=◌, ascii, eqs}
use Rattle.format.specs.Tokens.{Parts, fold_outcome}
use Rattle.format.specs.TextReader.{parse_group, parse_text_group, parse_symbol_group, parse_linker_group, parse_debug_group}
use Rattle.format.specs.ObjectFile.{ObjectFile}
use Rattle.text_lines.specs.Groups.{parts_from, kind_of, HeadAt}
use Rattle.text_lines.proofs.TestLaws.{by_test}

-- what a kind does
unfoldable pub by_kind : ℕ → ObjectFile → List (List ℕ) → Outcome ObjectFile
by_kind k h ls =
    if eqb k 0 then parse_text_group h ls
    else if eqb k 1 then parse_symbol_group h ls
    else if eqb k 2 then parse_linker_group h ls
    else if eqb k 3 then parse_debug_group h ls
    else refused 23

pub group_kind : (h : ObjectFile) (name : List ℕ) (ls : List (List ℕ)) → parse_group h (name, ls) ≡ by_kind (kind_of name) h ls
unfolding parse_group by_kind kind_of
group_kind h name ls =
    by_test (eqs name (ascii ".TEXT")) (λ t. simp t)
    (λ a. by_test (eqs name (ascii ".SYMBOL")) (λ t. simp (a, t))
    (λ b. by_test (eqs name (ascii ".LINKER_INFO")) (λ t. simp (a, b, t))
    (λ c. by_test (eqs name (ascii ".DEBUG")) (λ t. simp (a, b, c, t)) (λ d. simp (a, b, c, d)))))

-- at a head: the group's lines are those left after it, and the groups after it come next
pub groups-on : (h : ObjectFile) (t : List ℕ) (at k n : ℕ) → HeadAt t at k n
    → fold_outcome parse_group h (parts_from t at).groups ≡ (by_kind k h (parts_from t n).before >>= λ h'. fold_outcome parse_group h' (parts_from t n).groups)
unfolding fold_outcome
groups-on h t at k n l =
    ap (λ (p : Parts (List ℕ)). fold_outcome parse_group h p.groups) l.same
    ∙ ap (λ (o : Outcome ObjectFile). o >>= λ h'. fold_outcome parse_group h' (parts_from t n).groups) (group_kind h l.name (parts_from t n).before ∙ ap (λ (j : ℕ). by_kind j h (parts_from t n).before) (sym l.kind))
