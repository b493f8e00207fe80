-- The walk over the groups of a text file: what it knows of the object so far. Assumes nothing.
use Rattle.std.specs.Prelude as std
use Rattle.std.specs.Prelude.{Some, None, Result, Ok, Err, ◌≡◌, Bool, true, false, ℕ, ◌≤◌, ◌<◌, if◌then◌else◌}
use mathlib.Core.List.{List, [], flat_map}
use Rattle.std.proofs.Math.Option.{Option, none, some}
use Rattle.format.specs.Basics.{Outcome, refused, given, ◌>>=◌, ask, every, is_empty}
use Rattle.format.specs.Tokens.{fold_outcome}
use Rattle.format.specs.ObjectFile.{LineBlock, ObjectFile, never_fall}
use Rattle.format.specs.Records.{empty_object}
use Rattle.format.specs.TextReader.{unescape, parse_group, parse_debug_group}
use Rattle.text_lines.specs.Groups.{parts_from, kind_of}
use Rattle.text_tables.specs.Debug.{line_view}
use Rattle.text_source.specs.Stream.{source_cell}
use Rattle.units.specs.declared.refusal.Refusal.{Refusal}
use Rattle.units.specs.Refusal.{number_of}
use Rattle.text_blocks.specs.Blocks.{Seen, Counts, Checked}
use Rattle.text_debug.specs.declared.Lines.{Lines}
use Rattle.text_debug.specs.declared.SourceRows.{SourceRows}
use Rattle.text_debug.specs.LineTable.{source_in, Makes, no_lines}
use Rattle.text_debug.specs.DebugGroup.{line_blocks_in}
use Rattle.text_scan.specs.declared.Walked.{Walked}

-- "addresses in each kept run never fall", of line blocks
unfoldable pub blocks_rise : List LineBlock → Bool
blocks_rise ls = every (λ l. never_fall l.addresses) ls

abbrev pub runs_rise : List (List ℕ) → Bool  -- and of a line table's rows
runs_rise ls = blocks_rise (line_blocks_in ls)

-- the line blocks of an object, from the rows of the line table that has rows, if there is one
unfoldable pub line_blocks_of : Bool → List (List ℕ) → List LineBlock
line_blocks_of sourced ls = if sourced then line_blocks_in ls else []

unfoldable pub source_of : Bool → List (List ℕ) → Option (List ℕ)  -- and its source
source_of sourced ls = if sourced then some (source_in ls) else none

-- THE OBJECT SO FAR agrees with what the walk keeps of it: a source is there or not, and the rows that it comes from, which unescape and
-- make so much, start at a place
pub record Lined (t : List ℕ) (sourced : Bool) (rows : ℕ) (lines : Lines) (h : ObjectFile) : Type 0 where
  pub blocks : h.line_blocks ≡ line_blocks_of sourced (line_view t rows).0
  pub source : h.source ≡ source_of sourced (line_view t rows).0
  pub reads : sourced ≡ true → unescape (flat_map source_cell (line_view t rows).0) ≡ given (source_in (line_view t rows).0)
  pub makes : sourced ≡ true → Makes (line_view t rows).0 lines

-- and the addresses of its blocks are marked, their words counted
pub record Agrees (t : List ℕ) (seen : List ℕ) (sourced : Bool) (rows : ℕ) (made : Lines) (words : ℕ) (h : ObjectFile) : Type 0 where
  pub marks : Seen h seen
  pub counts : Counts h words
  pub lines : Lined t sourced rows made h

-- an outcome has the number handed back, never 0 for a refusal; with 0 it is so of the object
abbrev pub Comes : (ObjectFile → Type 0) → ℕ → Outcome ObjectFile → Type 0
Comes P number (refused n) = (number ≡ n) × (0 < n)
Comes P number (given h) = (number ≡ 0) × P h

-- WHAT A WALK COMES TO: its number, the place after the groups, whether there is a source, where its rows are, what they make, and how many
-- words the blocks have
pub record Walk : Type 0 where
  pub number : ℕ
  pub next : ℕ
  pub sourced : Bool
  pub rows : ℕ
  pub lines : Lines
  pub words : ℕ

-- the place of a source's rows, and what they make; of no source, 0 and nothing
abbrev pub rows_in : std.Option SourceRows → ℕ
rows_in (Some r) = r.start
rows_in None = 0

abbrev pub lines_in : std.Option SourceRows → Lines
lines_in (Some r) = r.lines
lines_in None = no_lines

-- no groups, up to a place
abbrev pub no_groups : ℕ → ℕ → Walk
no_groups number at = record { number = number; next = at; sourced = false; rows = 0; lines = no_lines; words = 0 }

-- after groups; refused, it is at the given place, with the given count
abbrev pub walk_view : ℕ → ℕ → Result Walked Refusal → Walk
walk_view at words (Ok w) =
    record { number = 0; next = w.next; sourced = std.is_some w.source; rows = rows_in w.source; lines = lines_in w.source; words = w.words }
walk_view at words (Err r) = record { number = number_of r; next = at; sourced = false; rows = 0; lines = no_lines; words = words }

-- A group of a kind other than .DEBUG, for every object that the marks and the count stand for: its line blocks and source stand as they were.
pub record LinesChecked (t : List ℕ) (kind at words : ℕ) (seen seen' : List ℕ) (r : Checked) : Type 0 where
  pub from : at ≤ r.next
  pub after : r.number ≡ 0 → parts_from t r.next ≡ record { before = []; groups = (parts_from t at).groups }
  pub settles : (name : List ℕ) → kind ≡ kind_of name → (h : ObjectFile) → Seen h seen → Counts h words
      → Comes (λ h'. Seen h' seen' × Counts h' r.words × (h'.line_blocks ≡ h.line_blocks) × (h'.source ≡ h.source)) r.number
      (parse_group h (name, (parts_from t at).before))

-- A group of any kind from its lines on, for every object that agrees with the marks and the lines before it.
pub record GroupChecked (t : List ℕ) (kind at : ℕ) (sourced : Bool) (rows : ℕ) (lines : Lines) (words : ℕ) (seen seen' : List ℕ) (r : Walk) : Type 0 where
  pub from : at ≤ r.next
  pub after : r.number ≡ 0 → parts_from t r.next ≡ record { before = []; groups = (parts_from t at).groups }
  pub settles : (name : List ℕ) → kind ≡ kind_of name → (h : ObjectFile) → Agrees t seen sourced rows lines words h
      → Comes (Agrees t seen' r.sourced r.rows r.lines r.words) r.number (parse_group h (name, (parts_from t at).before))

-- .DEBUG alone; blocks stand as they were
pub record DebugWalked (t : List ℕ) (at : ℕ) (sourced : Bool) (rows : ℕ) (lines : Lines) (words : ℕ) (r : Walk) : Type 0 where
  pub counted : r.words ≡ words
  pub from : at ≤ r.next
  pub after : r.number ≡ 0 → parts_from t r.next ≡ record { before = []; groups = (parts_from t at).groups }
  pub settles : (h : ObjectFile) → Lined t sourced rows lines h
      → Comes (λ h'. (h'.blocks ≡ h.blocks) × Lined t r.sourced r.rows r.lines h') r.number
      (parse_debug_group h (parts_from t at).before)

-- "Every later kept line in a group? 22", "Then per group": from a place on, with an object so far
unfoldable pub groups_from : List ℕ → ℕ → ObjectFile → Outcome ObjectFile
groups_from t at h = ask 22 (is_empty (parts_from t at).before) >>= λ _. fold_outcome parse_group h (parts_from t at).groups

-- all groups from a place on
abbrev pub GroupsWalked : List ℕ → ℕ → Walk → Type 0
GroupsWalked t first r = Comes (λ h. Lined t r.sourced r.rows r.lines h × Counts h r.words) r.number (groups_from t first empty_object)
