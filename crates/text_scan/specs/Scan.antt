-- What a scan of a text file comes to. Assumes nothing.
use Rattle.std.specs.Prelude as std
use Rattle.std.specs.Prelude.{Bool, Result, Ok, Err, ◌≡◌, true, false, List, ℕ, ◌≤◌, ◌<◌, length, drop}
use Rattle.format.specs.Basics.{Outcome, refused, given, ◌>>=◌, ask, is_empty, begins_with, ascii}
use Rattle.format.specs.Tokens.{fold_outcome, parts_at}
use Rattle.format.specs.ObjectFile.{ObjectFile}
use Rattle.format.specs.Records.{empty_object, text_questions, concluded, drop_stray_relocations}
use Rattle.format.specs.TextReader.{after_magic, parse_group}
use Rattle.text_lines.specs.Lines.{kept}
use Rattle.text_lines.specs.Groups.{parts_from}
use Rattle.text_blocks.specs.Blocks.{Counts}
use Rattle.text_debug.specs.LineTable.{no_lines}
use Rattle.units.specs.declared.refusal.Refusal.{Refusal}
use Rattle.units.specs.Refusal.{number_of}
use Rattle.text_debug.specs.declared.Lines.{Lines}
use Rattle.text_scan.specs.Walk.{Lined, groups_from, rows_in, lines_in}
use Rattle.text_scan.specs.declared.Scanned.{Scanned}

-- the object of a file that was trimmed, which starts at a place of t: 21, 22, per group, and the last questions
unfoldable pub trimmed_object : List ℕ → ℕ → Outcome ObjectFile
trimmed_object t start = do
  ls ← after_magic (kept (drop start t))
  let parts = parts_at (begins_with (ascii ".")) ls
  _ ← ask 22 (is_empty parts.before)
  h ← fold_outcome parse_group empty_object parts.groups
  concluded text_questions h

-- and from the place after its first kept line on: 22, per group, and the last questions
unfoldable pub groups_object : List ℕ → ℕ → Outcome ObjectFile
groups_object t first = groups_from t first empty_object >>= concluded text_questions

-- what a scan comes to: its number, the places after the first kept line and at the end of what trimming leaves, whether there is a source,
-- where its rows are, what they make, and how many words the blocks have
pub record Scan : Type 0 where
  pub number : ℕ
  pub first : ℕ
  pub end : ℕ
  pub sourced : Bool
  pub rows : ℕ
  pub lines : Lines
  pub words : ℕ

-- a refusal: every other value is 0
abbrev pub refused_scan : ℕ → Scan
refused_scan number = record { number = number; first = 0; end = 0; sourced = false; rows = 0; lines = no_lines; words = 0 }

abbrev pub scan_view : Result Scanned Refusal → Scan
scan_view (Ok r) =
    record {
      number = 0;
      first = r.first;
      end = r.end;
      sourced = std.is_some r.source;
      rows = rows_in r.source;
      lines = lines_in r.source;
      words = r.words;
    }
scan_view (Err r) = refused_scan (number_of r)

-- A file that reads, where t is the file up to the end of what trimming leaves: the object that the groups from the place after the first
-- kept line come to, where no line stands before the first of them, the place of the rows that its line blocks and source are from, and how
-- many words its blocks have.
-- The file's object is this one, less stray relocations.
pub record Read (t : List ℕ) (r : Scan) (h : ObjectFile) : Type 0 where
  pub yes : r.number ≡ 0
  pub end : r.end ≡ length t
  pub inside : r.first ≤ length t
  pub object : ObjectFile
  pub before : is_empty (parts_from t r.first).before ≡ true
  pub groups : fold_outcome parse_group empty_object (parts_from t r.first).groups ≡ given object
  pub lines : Lined t r.sourced r.rows r.lines object
  pub words : Counts object r.words
  pub whole : h ≡ drop_stray_relocations object

-- what a scan hands back for each outcome; no refusal has number 0
abbrev pub Scans : List ℕ → Outcome ObjectFile → Scan → Type 0
Scans t (refused n) r = (r ≡ refused_scan n) × (0 < n)
Scans t (given h) r = Read t r h
