-- What a record adds to the rows of the line table, in a walk along the records of an object. Assumes nothing.
use Rattle.std.specs.Prelude as prelude
use Rattle.std.specs.Prelude.{Some, None, ◌≡◌, true, List, [], ◌∷◌, ◌++◌, ℕ, ◌+◌, ◌-◌, ◌^◌, ◌≤◌, ◌<◌, length, drop, eqb, if◌then◌else◌}
use Rattle.std.proofs.Math.Option.{none, some, get_or}
use Rattle.format.specs.Basics.{given_or, and_then}
use Rattle.format.specs.ObjectFile.{LineBlock, line_end}
use Rattle.format.specs.Records.{empty_object}
use Rattle.format.specs.Words.{object_of}
use Rattle.format.specs.TextWriter.{Row, plain_rows, line_table, bar_line}
use Rattle.object.specs.Bodies.{body_at}
use Rattle.object.specs.Access.{kind_at, line_block_at}
use Rattle.measuring.specs.Room.{less_part}
use Rattle.text_lines_out.specs.Merge.{smaller, block_rows, straight, walk_from}
use Rattle.text_lines_out.specs.Lines.{At, rows_text}
use Rattle.text_lines_out.specs.Runs.{address_from, run_rows}
use Rattle.text_lines_out.specs.declared.Wrapped.{Wrapped}
use Rattle.text_lines_out.specs.declared.Lines.{Lines}
use Rattle.text_lines_out.specs.declared.Passed.{Passed}

module _ (ws : List ℕ) (at lines wraps done : ℕ) where
  -- the source's rows before the line block at a place, and its own
  abbrev pub gap_rows : List Row
  gap_rows = plain_rows done (smaller (line_block_at ws at).first lines - done)

  abbrev pub own_rows : List Row
  own_rows = block_rows (wraps + ((line_block_at ws at).first - wraps)) (drop (wraps - (line_block_at ws at).first) (straight (line_block_at ws at)))

  -- the rows of the record at a place: none unless it is a line block
  unfoldable pub record_rows : List Row
  record_rows = if eqb (kind_at ws at) 3 then gap_rows ++ own_rows else []

  -- how many of the source's lines are done past it
  unfoldable pub record_done : ℕ
  record_done = if eqb (kind_at ws at) 3 then done + (smaller (line_end (line_block_at ws at)) lines - done) else done

  -- a line block at a place begins past the end of the one before it, up to which the source's lines are done
  abbrev pub Follows : Type 0
  Follows =
      kind_at ws at ≡ 3 → (e : ℕ) × (e ≤ (line_block_at ws at).first) × ((line_block_at ws at).first < 2 ^ 64)
      × (done ≡ smaller (wraps + (e - wraps)) lines)

-- the room that rows leave, how many of the source's lines are done, and where the next one starts
abbrev pub Passes : ℕ → List ℕ → ℕ → List Row → ℕ → prelude.Option Passed → Type 0
Passes room s width rows m (Some r) =
    (some r.left ≡ less_part room (rows_text width s rows)) × (r.done ≡ m) × At s m r.start
Passes room s width rows m None = none ≡ less_part room (rows_text width s rows)

-- the line blocks of well formed words; none of others, which no caller has
abbrev pub line_blocks_in : List ℕ → List LineBlock
line_blocks_in ws = (given_or (object_of ws) empty_object).line_blocks

-- the rows of a walk along the whole object, after so many rows that wrapped
unfoldable pub walk_rows : List ℕ → ℕ → ℕ → List Row
walk_rows ws lines wraps = walk_from lines wraps (smaller wraps lines) (line_blocks_in ws)

-- the addresses of the record at a place whose lines wrap: none unless it is a line block
unfoldable pub wrapped_at : List ℕ → ℕ → List ℕ
wrapped_at ws at = if eqb (kind_at ws at) 3 then drop (2 ^ 64 - (line_block_at ws at).first) (line_block_at ws at).addresses else []

-- so many words from a place on hold these addresses, of line 0 and those after it
pub record Wraps (ws xs : List ℕ) (r : Wrapped) : Type 0 where
  pub count : r.count ≡ length xs
  pub rows : run_rows 0 (address_from true ws r.place) 0 r.count ≡ block_rows 0 xs

-- words found before stay; else they are those of the record at a place
pub record WrapsOn (ws : List ℕ) (at : ℕ) (before r : Wrapped) : Type 0 where
  pub kept : 0 < before.count → r ≡ before
  pub found : before.count ≡ 0 → Wraps ws (wrapped_at ws at) r

-- the lines of the record at a place: none unless it is a line block
pub record LinesAt (ws : List ℕ) (at : ℕ) (r : Lines) : Type 0 where
  pub other : (kind_at ws at ≡ 3 → ⊥) → r.count ≡ 0
  pub block :
      kind_at ws at ≡ 3 → (r.first ≡ (line_block_at ws at).first) × (r.count ≡ length (body_at ws (at + 1 + 3))) × (r.place ≡ at + 1 + 3)
  pub fits : r.place + r.count ≤ length ws + 4

-- the largest line number that a block with addresses sets in: the largest 64-bit value where lines wrap
abbrev pub last_line : LineBlock → ℕ
last_line l = smaller (l.first + (length l.addresses - 1)) (2 ^ 64 - 1)

-- the larger of a line number and that
unfoldable pub block_top : ℕ → LineBlock → ℕ
block_top top l = if eqb (length l.addresses) 0 then top else top + (last_line l - top)

unfoldable pub blocks_top : ℕ → List LineBlock → ℕ  -- block by block
blocks_top top [] = top
blocks_top top (l ∷ ls) = blocks_top (block_top top l) ls

unfoldable pub top_at : List ℕ → ℕ → ℕ → ℕ  -- of the record at a place
top_at ws at top = if eqb (kind_at ws at) 3 then block_top top (line_block_at ws at) else top

-- .DEBUG past the first divider line, of well formed words: the line table and another divider line, nothing without a source
unfoldable pub source_table : List ℕ → List ℕ
source_table ws =
    get_or (and_then (given_or (object_of ws) empty_object).source λ s. some (line_table s (line_blocks_in ws) ++ bar_line)) []
