-- Groups from a place on: the lines left of the group that a place is in, and the groups after it.
-- Assumes nothing.
use Rattle.std.specs.Prelude.{Option, Some, None, Result, Ok, Err, ◌≡◌, Bool, false, List, [], ℕ, ◌≤◌, ◌<◌, length, drop, get_or, if◌then◌else◌}
use Rattle.format.specs.Basics.{ascii, eqs, begins_with, is_empty}
use Rattle.format.specs.Tokens.{Parts, head_of, parts_at}
use Rattle.text_lines.specs.declared.Line.{Line}
use Rattle.text_lines.specs.declared.Head.{Head}
use Rattle.text_lines.specs.declared.GroupKind.{GroupKind}
use Rattle.text_lines.specs.declared.GroupKind.TheVariants as group
use Rattle.units.specs.declared.refusal.Refusal.{Refusal}
use Rattle.units.specs.Refusal.{number_of}
use Rattle.text_lines.specs.Lines.{kept}
use Rattle.text_lines.specs.Views.{View, StepAt}

-- from a place on: the lines left of the group that it is in, and the groups after it
unfoldable pub parts_from : List ℕ → ℕ → Parts (List ℕ)
parts_from t at = parts_at (begins_with (ascii ".")) (kept (drop at t))

-- the lines left of the group, and the groups after it
abbrev pub group_view : List ℕ → View (List (List ℕ × List (List ℕ)))
group_view t at = ((parts_from t at).before, (parts_from t at).groups)

-- a line of the group, and the place after it
abbrev pub RowAt : List ℕ → ℕ → ℕ → ℕ → ℕ → Type 0
RowAt t at a e n = StepAt (group_view t) t at a e n

abbrev pub NextRow : List ℕ → ℕ → Option Line → Type 0
NextRow t at (Some l) = RowAt t at l.start l.end l.next
NextRow t at None = (parts_from t at).before ≡ []

-- spaces stand from a place up to another
abbrev pub Spaces : List ℕ → ℕ → ℕ → Type 0
Spaces t at e = (at ≤ e) × ((i : ℕ) → at ≤ i → i < e → get_or t i 0 ≡ 0x20)

-- a line is kept and opens no group by its first byte past spaces, where there are spaces or none
abbrev pub ShowsRow : ℕ → Bool → Type 0
ShowsRow b spaced = (0x21 ≤ b) × (b ≤ 0x7E) × (spaced ≡ false → (b ≡ 0x23 → ⊥) × (b ≡ 0x2E → ⊥))

-- the groups by their headers; 4 is none of them
unfoldable pub kind_of : List ℕ → ℕ
kind_of l =
    if eqs l (ascii ".TEXT") then 0
    else if eqs l (ascii ".SYMBOL") then 1
    else if eqs l (ascii ".LINKER_INFO") then 2
    else if eqs l (ascii ".DEBUG") then 3
    else 4

pub record HeadAt (t : List ℕ) (at k n : ℕ) : Type 0 where
  pub on : at < n
  pub next : n ≤ length t
  pub name : List ℕ
  pub kind : k ≡ kind_of name
  pub same : parts_from t at ≡ head_of name (parts_from t n)

-- a kind, as `kind_of` has it
abbrev pub number_of_kind : GroupKind → ℕ
number_of_kind group.Text = 0
number_of_kind group.Symbols = 1
number_of_kind group.Linker = 2
number_of_kind group.Debug = 3
number_of_kind group.Unknown = 4

abbrev pub NextHead : List ℕ → ℕ → Result (Option Head) Refusal → Type 0
NextHead t at (Ok (Some h)) = HeadAt t at (number_of_kind h.kind) h.next
NextHead t at (Ok None) = parts_from t at ≡ record { before = []; groups = [] }
NextHead t at (Err r) = (number_of r ≡ 22) × (is_empty (parts_from t at).before ≡ false)
