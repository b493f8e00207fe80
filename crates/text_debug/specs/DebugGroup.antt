-- .DEBUG whole: its number, and what it leaves of an object. Assumes nothing.
use Rattle.std.specs.Prelude as std
use Rattle.std.specs.Prelude.{Some, None, Result, Ok, Err, ◌≡◌, ℕ, ◌<◌, ◌≤◌, Bool, true, false, List, [], map, length, drop}
use mathlib.Core.List.{flat_map}
use Rattle.std.proofs.Math.Option.{none, some}
use Rattle.format.specs.Basics.{Outcome, refused, given, is_some, is_empty}
use Rattle.format.specs.ObjectFile.{LineBlock, ObjectFile}
use Rattle.format.specs.Records.{empty_object}
use Rattle.format.specs.TextReader.{runs_from, unescape, up_to_bar, parse_label_table, parse_debug_group}
use Rattle.format.specs.Calls.{refusal_of}
use Rattle.text_lines.specs.Groups.{parts_from}
use Rattle.text_tables.specs.Debug.{label_view, line_view, BarAt}
use Rattle.text_source.specs.Stream.{source_cell}
use Rattle.text_debug.specs.LineRuns.{address_in}
use Rattle.text_debug.specs.LineTable.{source_in, Makes, no_lines}
use Rattle.units.specs.declared.refusal.Refusal.{Refusal}
use Rattle.units.specs.Refusal.{number_of}
use Rattle.text_debug.specs.declared.Lines.{Lines}
use Rattle.text_debug.specs.declared.SourceRows.{SourceRows}
use Rattle.text_debug.specs.declared.DebugGroup.{DebugGroup}

-- the place after the group, where its last line begins with =; the line table is then all but this line
abbrev pub LastBar : List ℕ → ℕ → std.Option ℕ → Type 0
LastBar t from (Some q) =
    (from ≤ q) × (parts_from t q ≡ record { before = []; groups = (parts_from t from).groups })
    × (up_to_bar (parts_from t from).before ≡ some (line_view t from).0)
LastBar t from None = up_to_bar (parts_from t from).before ≡ none

-- the place of the line table's first row, where the table has rows
abbrev pub FirstRow : List ℕ → ℕ → std.Option ℕ → Type 0
FirstRow t from (Some q) =
    (q ≤ length t) × (is_empty (drop 1 (line_view t from).0) ≡ false) × ((line_view t q).0 ≡ drop 1 (line_view t from).0)
FirstRow t from None = is_empty (drop 1 (line_view t from).0) ≡ true

-- a group with both bars, whose label table reads: the places after the bars
pub record Barred (t : List ℕ) (at bar next : ℕ) : Type 0 where
  pub full : is_empty (parts_from t at).before ≡ false
  pub first : BarAt t at bar
  pub last : LastBar t bar (Some next)
  pub labels : 0 ≡ refusal_of (parse_label_table empty_object (label_view t at).0)

-- the kept runs of a line table's rows
unfoldable pub line_blocks_in : List (List ℕ) → List LineBlock
line_blocks_in ls = runs_from 0 [] (map address_in ls)

-- from one object to the next: the line blocks and the source are those of a line table's rows, which unescape, or stand as before
abbrev pub LinesSet : Bool → List (List ℕ) → ObjectFile → ObjectFile → Type 0
LinesSet true ls h h' =
    (h'.line_blocks ≡ line_blocks_in ls) × (h'.source ≡ some (source_in ls)) × (unescape (flat_map source_cell ls) ≡ given (source_in ls))
LinesSet false ls h h' = (h'.line_blocks ≡ h.line_blocks) × (h'.source ≡ h.source)

-- what a group comes to: its number, the place after it, whether there are rows of lines, the place where they start, and what they make
pub record DebugRead : Type 0 where
  pub number : ℕ
  pub next : ℕ
  pub lined : Bool
  pub rows : ℕ
  pub lines : Lines

-- the answer for a group that has no rows of lines
abbrev pub without_rows : ℕ → ℕ → DebugRead
without_rows number next = record { number = number; next = next; lined = false; rows = 0; lines = no_lines }

abbrev pub rows_read : ℕ → std.Option SourceRows → DebugRead
rows_read next (Some r) = record { number = 0; next = next; lined = true; rows = r.start; lines = r.lines }
rows_read next None = without_rows 0 next

-- refused, it is at the group's place
abbrev pub group_view : ℕ → Result DebugGroup Refusal → DebugRead
group_view at (Ok g) = rows_read g.next g.rows
group_view at (Err r) = without_rows (number_of r) at

-- an outcome has this number, never 0 for a refusal; with 0 the blocks stand, and the lines are set or stand
abbrev pub DebugSettles : Bool → List (List ℕ) → ObjectFile → ℕ → Outcome ObjectFile → Type 0
DebugSettles lined ls h number (refused n) = (number ≡ n) × (0 < n)
DebugSettles lined ls h number (given h') = (number ≡ 0) × (h'.blocks ≡ h.blocks) × LinesSet lined ls h h'

-- What a check of .DEBUG's lines comes to, for every object that has a source, or that has none: the number, the place after the
-- group, and the place of the line table's rows and what they make, where it has rows. Refused, it is at the group's place and has no rows.
pub record DebugChecked (t : List ℕ) (at : ℕ) (sourced : Bool) (r : DebugRead) : Type 0 where
  pub from : at ≤ r.next
  pub after : r.number ≡ 0 → parts_from t r.next ≡ record { before = []; groups = (parts_from t at).groups }
  pub inside : r.rows ≤ length t
  pub makes : r.lined ≡ true → Makes (line_view t r.rows).0 r.lines
  pub settles : (h : ObjectFile) → is_some h.source ≡ sourced
      → DebugSettles r.lined (line_view t r.rows).0 h r.number (parse_debug_group h (parts_from t at).before)
