-- The line table's number, and what its rows make. Assumes nothing.
use Rattle.std.specs.Prelude.{Result, Ok, Err, ◌≡◌, ℕ, ◌%◌, ◌^◌, Bool, true, false, List, [], ◌∷◌, map, length, drop}
use mathlib.Core.List.{flat_map}
use Rattle.format.specs.Basics.{ascii, given_or, is_some, is_empty}
use Rattle.format.specs.ObjectFile.{ObjectFile}
use Rattle.format.specs.Utf8.{trim}
use Rattle.format.specs.TextReader.{splitn, same_cells, unescape, parse_line_table}
use Rattle.format.specs.Calls.{refusal_of}
use Rattle.text_source.specs.Stream.{source_cell}
use Rattle.text_debug.specs.declared.Lines.{Lines}
use Rattle.units.specs.declared.refusal.Refusal.{Refusal}
use Rattle.units.specs.Refusal.{number_of}
use Rattle.text_debug.specs.LineRuns.{runs_in}

abbrev pub line_columns : List (List ℕ)
line_columns = ascii "LINE" ∷ ascii "ADDR" ∷ ascii "SOURCE" ∷ []

-- "Joined source unescapes": the source in rows, empty where it doesn't
unfoldable pub source_in : List (List ℕ) → List ℕ
source_in ls = given_or (unescape (flat_map source_cell ls)) []

-- what rows make: the bytes of their source and the words of their line blocks, as 64 bits count, and whether these rise
abbrev pub Makes : List (List ℕ) → Lines → Type 0
Makes ls r = (r.len ≡ length (source_in ls) % 2 ^ 64) × (r.words ≡ (runs_in ls).words) × (r.rise ≡ (runs_in ls).rise)

abbrev pub no_lines : Lines
no_lines = record { len = 0; words = 0; rise = true }

-- what a line table comes to: its number, and what its rows make, where it reads and has rows
pub record LineTable : Type 0 where
  pub number : ℕ
  pub lines : Lines

-- the answer for a line table that is refused, or that has no rows
abbrev pub without_lines : ℕ → LineTable
without_lines number = record { number = number; lines = no_lines }

abbrev pub table_view : Result Lines Refusal → LineTable
table_view (Ok lines) = record { number = 0; lines = lines }
table_view (Err r) = without_lines (number_of r)

-- the number of these lines as a line table, for every object that has a source, or that has none
abbrev pub TableNumber : List (List ℕ) → Bool → ℕ → Type 0
TableNumber ls sourced number = (h : ObjectFile) → is_some h.source ≡ sourced → number ≡ refusal_of (parse_line_table h ls)

-- and, where it reads and has rows, what these make
abbrev pub LineTableIs : List (List ℕ) → Bool → LineTable → Type 0
LineTableIs ls sourced r = TableNumber ls sourced r.number × (r.number ≡ 0 → is_empty (drop 1 ls) ≡ false → Makes (drop 1 ls) r.lines)

-- and the same of rows, under any header
abbrev pub RowTableIs : List (List ℕ) → Bool → LineTable → Type 0
RowTableIs rows sourced r = (l : List ℕ) → same_cells (map trim (splitn 2 l)) line_columns ≡ true → LineTableIs (l ∷ rows) sourced r
