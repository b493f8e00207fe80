-- .DEBUG from a place on: the first line that begins with =, the label table before it and the line table after it.
-- Assumes nothing.
use Rattle.std.specs.Prelude as std
use Rattle.std.specs.Prelude.{Some, None, ◌≡◌, List, [], ◌∷◌, ℕ, ◌≤◌, ◌<◌, length}
use Rattle.std.proofs.Math.Option.{Option, none, some}
use Rattle.format.specs.TextReader.{split_at_bar}
use Rattle.text_lines.specs.declared.Line.{Line}
use Rattle.text_lines.specs.Views.{View, StepAt}
use Rattle.text_lines.specs.Groups.{parts_from}

abbrev pub Groups : Type 0
Groups = List (List ℕ × List (List ℕ))

-- the lines left of the label table; the lines after the first =, and the groups
abbrev pub label_view : List ℕ → View (Option (List (List ℕ)) × Groups)
label_view t at = ((split_at_bar (parts_from t at).before).before, ((split_at_bar (parts_from t at).before).after, (parts_from t at).groups))

-- all but the last
unfoldable pub but_last : {A : Type 0} → List A → List A
but_last [] = []
but_last (a ∷ []) = []
but_last (a ∷ b ∷ xs) = a ∷ but_last (b ∷ xs)

-- the lines left of the line table, which ends before the last line of the group; and the groups
abbrev pub line_view : List ℕ → View Groups
line_view t at = (but_last (parts_from t at).before, (parts_from t at).groups)

-- a line of a view, or the end of it
abbrev pub NextIn : {C : Type 0} → View C → List ℕ → ℕ → std.Option Line → Type 0
NextIn v t at (Some l) = StepAt v t at l.start l.end l.next
NextIn v t at None = (v at).0 ≡ []

-- the place after the first =
pub record BarAt (t : List ℕ) (at q : ℕ) : Type 0 where
  pub on : at < q
  pub next : q ≤ length t
  pub groups : (parts_from t q).groups ≡ (parts_from t at).groups
  pub after : (split_at_bar (parts_from t at).before).after ≡ some (parts_from t q).before

abbrev pub FirstBar : List ℕ → ℕ → std.Option ℕ → Type 0
FirstBar t at (Some q) = BarAt t at q
FirstBar t at None = (split_at_bar (parts_from t at).before).after ≡ none
