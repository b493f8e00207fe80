-- Rows of the line table with the lines that follow each other from a byte of the source on, for any words, rows and byte. That they are
-- the rows of a well formed object is said where it is written. Assumes nothing.
use Rattle.std.specs.Prelude as prelude
use Rattle.std.specs.Prelude.{Some, None, ◌≡◌, ℕ, ◌+◌, ◌-◌, ◌%◌, ◌^◌, length, drop, ltb, eqb, if◌then◌else◌}
use mathlib.Core.List.{List, [], ◌∷◌, ◌++◌, flat_map}
use Rattle.std.proofs.Math.Option.{Option, none, some}
use Rattle.format.specs.TextWriter.{Row, plain_rows}
use Rattle.measuring.specs.Room.{less_part}
use Rattle.text_escape.specs.Escaped.{escaped_in}
use Rattle.text_escape.specs.Rows.{line_line}
use Rattle.text_lines_out.specs.Merge.{smaller}
use Rattle.text_lines_out.specs.Runs.{source_of}
use Rattle.text_lines_out.specs.Walk.{record_rows, record_done}
use Rattle.text_lines_out.specs.declared.Table.{Table}
use Rattle.text_lines_out.specs.declared.Rows.{Rows}
use Rattle.text_lines_out.specs.declared.Passed.{Passed}

-- past the newline of a line that goes on at byte i; one byte past the text where there is none
unfoldable pub past_line : ℕ → List ℕ → ℕ
past_line i [] = i + 1
past_line i (b ∷ bs) = if eqb b 10 then i + 1 else past_line (i + 1) bs

-- where the line after the one that starts at a byte starts: past the last line, one byte past the source, as far as 64 bits go
unfoldable pub next_start : List ℕ → ℕ → ℕ
next_start s start = smaller (if ltb start (length s) then past_line start (drop start s) else length s + 1) (2 ^ 64 - 1)

module _ (ws : List ℕ) (t : Table) where
  -- a row with the line that starts at a byte
  abbrev pub line_at : ℕ → Option ℕ → ℕ → List ℕ
  line_at number address start =
      line_line t.width number address (escaped_in ws t.text start (smaller (next_start (source_of ws t) start) t.n))

  -- its number has 64 bits
  abbrev pub row_line : ℕ → Option ℕ → ℕ → List ℕ
  row_line number address start = line_at (number % 2 ^ 64) address start

  -- rows with the lines from that one on, and where the next line starts
  unfoldable pub row_lines : List Row → ℕ → List (List ℕ)
  row_lines [] start = []
  row_lines (r ∷ rs) start = row_line r.number r.address start ∷ row_lines rs (next_start (source_of ws t) start)

  unfoldable pub start_past : List Row → ℕ → ℕ
  start_past [] start = start
  start_past (r ∷ rs) start = start_past rs (next_start (source_of ws t) start)

-- rows one after the other
abbrev pub itself : List ℕ → List ℕ
itself x = x

abbrev pub joined : List (List ℕ) → List ℕ
joined xs = flat_map itself xs

-- the rows of the records at some places, of which so many of the source's lines are done before, and of the lines past them
unfoldable pub placed_rows : List ℕ → ℕ → ℕ → ℕ → List ℕ → List Row
placed_rows ws lines wraps done [] = plain_rows done (lines - done)
placed_rows ws lines wraps done (p ∷ ps) =
    record_rows ws p lines wraps done ++ placed_rows ws lines wraps (record_done ws p lines wraps done) ps

-- the room that rows leave, and where the next line starts
abbrev pub Leaves : ℕ → List ℕ → ℕ → prelude.Option Rows → Type 0
Leaves room text next (Some r) = (some r.left ≡ less_part room text) × (r.start ≡ next)
Leaves room text next None = none ≡ less_part room text

-- and how many of the source's lines are done
abbrev pub Passed-on : ℕ → List ℕ → ℕ → ℕ → prelude.Option Passed → Type 0
Passed-on room text next m (Some r) = (some r.left ≡ less_part room text) × (r.start ≡ next) × (r.done ≡ m)
Passed-on room text next m None = none ≡ less_part room text
