-- What the code's answers on rows say. Assumes nothing.
use Rattle.std.specs.Prelude as prelude
use Rattle.std.specs.Prelude.{Some, None, ◌≡◌, Bool, true, false, List, [], ◌∷◌, ℕ, zero, suc, ◌+◌, ◌-◌, length, drop, get_or}
use Rattle.std.proofs.Math.Option.{Option, none, some}
use Rattle.format.specs.ObjectFile.{line_end}
use Rattle.format.specs.TextWriter.{Row}
use Rattle.object.specs.Texts.{text_bytes}
use Rattle.object.specs.Access.{address_in, line_block_at}
use Rattle.text_numerals.specs.Memory.{known_word}
use Rattle.measuring.specs.Room.{less_part}
use Rattle.text_lines_out.specs.Merge.{smaller, block_rows, straight}
use Rattle.text_lines_out.specs.Lines.{At, rows_text}
use Rattle.text_lines_out.specs.declared.Plan.{Plan}
use Rattle.text_lines_out.specs.declared.Table.{Table}
use Rattle.text_lines_out.specs.declared.Run.{Run}
use Rattle.text_lines_out.specs.declared.Rows.{Rows}

abbrev pub row : ℕ → Option ℕ → Row  -- of a line, with its address if it has one
row number address = record { number = number; address = address }

-- the room that rows leave, and where the line of the next number starts
abbrev pub Measured : ℕ → List ℕ → ℕ → List Row → ℕ → prelude.Option Rows → Type 0
Measured room s width rows m (Some r) = (some r.left ≡ less_part room (rows_text width s rows)) × At s m r.start
Measured room s width rows m None = none ≡ less_part room (rows_text width s rows)

-- the address in word k from a place on, if addresses are known
abbrev pub address_from : Bool → List ℕ → ℕ → ℕ → Option ℕ
address_from known ws place k = known_word known (address_in (get_or ws (place + k) 0))

-- the addresses from a place on, if there is one
abbrev pub addresses_of : prelude.Option ℕ → List ℕ → ℕ → Option ℕ
addresses_of (Some place) ws = address_from true ws place
addresses_of None ws = address_from false ws 0

-- rows of n lines from line first + k on, with the addresses of k and those after it
unfoldable pub run_rows : ℕ → (ℕ → Option ℕ) → ℕ → ℕ → List Row
run_rows first address k zero = []
run_rows first address k (suc n) = row (first + k) (address k) ∷ run_rows first address (suc k) n

-- the source of a table, and the rows of a run
abbrev pub source_of : List ℕ → Table → List ℕ
source_of ws t = text_bytes ws t.text t.n

abbrev pub rows_of : List ℕ → Run → List Row
rows_of ws run = run_rows run.first (addresses_of run.place ws) 0 run.count

-- the rows of the line block at a place of the object, after rows that wrapped and those of the lines that are done
pub record Planned (ws : List ℕ) (at lines wraps done : ℕ) (r : Plan) : Type 0 where
  pub gap : r.gap ≡ smaller (line_block_at ws at).first lines - done
  pub first : r.own.first ≡ wraps + ((line_block_at ws at).first - wraps)
  pub size : r.own.count ≡ length (drop (wraps - (line_block_at ws at).first) (straight (line_block_at ws at)))
  pub rows :
      rows_of ws r.own
      ≡ block_rows (wraps + ((line_block_at ws at).first - wraps)) (drop (wraps - (line_block_at ws at).first) (straight (line_block_at ws at)))
  pub past : r.done ≡ done + (smaller (line_end (line_block_at ws at)) lines - done)
