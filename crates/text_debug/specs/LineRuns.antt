-- The rows of a line table, one after the other: their numbers, and the runs of rows with an address. Assumes nothing.
use Rattle.std.specs.Prelude as std
use Rattle.std.specs.Prelude.{Bool, Result, Ok, Err, ◌≡◌, ℕ, ◌+◌, ◌%◌, ◌^◌, true, false, not, ◌&&◌, ◌||◌, List, [], ◌∷◌, map, ◌==◌, nat_lt, if◌then◌else◌}
use Rattle.std.proofs.Math.Option.{Option, none, some}
use Rattle.format.specs.Basics.{and_then}
use Rattle.format.specs.TextReader.{parse_line_rows}
use Rattle.format.specs.Calls.{refusal_of}
use Rattle.text_tables.specs.declared.LineRow.{LineRow}
use Rattle.text_tables.specs.LineRows.{line_in, line_of}
use Rattle.text_debug.specs.declared.Runs.{Runs}
use Rattle.units.specs.declared.refusal.Refusal.{Refusal}
use Rattle.units.specs.Refusal.{number_of}
use Rattle.text_debug.specs.declared.LineRows.{LineRows}

-- a row's address, if it has one
unfoldable pub address_in : List ℕ → Option ℕ
address_in l = and_then (line_in l) λ r. r.1

abbrev pub row_address : std.Option LineRow → Option ℕ  -- as it was read
row_address row = and_then (line_of row) λ r. r.1

-- the runs after a row with an address
unfoldable pub run_on : Runs → ℕ → Runs
run_on s a = record { count = s.count + 1; last = a; fell = s.fell || nat_lt a s.last; words = s.words; rise = s.rise }

-- the words after the line block of a run of so many rows, as 64 bits count; none of no rows
unfoldable pub words_after : ℕ → ℕ → ℕ
words_after words count = if count == 0 then words else (words + (4 + count)) % 2 ^ 64

-- and after a row without
unfoldable pub run_end : Runs → Runs
run_end s = record { count = 0; last = 0; fell = false; words = words_after s.words s.count; rise = s.rise && not s.fell }

abbrev pub run_next : Runs → Option ℕ → Runs
run_next s none = run_end s
run_next s (some a) = run_on s a

unfoldable pub runs_over : Runs → List (Option ℕ) → Runs  -- and after rows
runs_over s [] = s
runs_over s (a ∷ rows) = runs_over (run_next s a) rows

abbrev pub no_runs : Runs
no_runs = record { count = 0; last = 0; fell = false; words = 0; rise = true }

abbrev pub runs_in : List (List ℕ) → Runs  -- of a line table's rows
runs_in ls = runs_over no_runs (map address_in ls)

-- what a check of rows comes to: a number, and where it is 0 the words of their line blocks and whether these rise
pub record RowsRead : Type 0 where
  pub number : ℕ
  pub words : ℕ
  pub rise : Bool

abbrev pub rows_view : Result LineRows Refusal → RowsRead
rows_view (Ok r) = record { number = 0; words = r.words; rise = r.rise }
rows_view (Err r) = record { number = number_of r; words = 0; rise = false }

-- rows, checked
abbrev pub LineRowsAre : List (List ℕ) → RowsRead → Type 0
LineRowsAre ls r =
    (r.number ≡ refusal_of (parse_line_rows 0 ls)) × (r.number ≡ 0 → (r.words ≡ (runs_in ls).words) × (r.rise ≡ (runs_in ls).rise))
