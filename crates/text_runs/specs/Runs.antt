-- The line blocks of a text file, run by run, from the rows of its line table. Assumes nothing.
use Rattle.std.specs.Prelude as std
use Rattle.std.specs.Prelude.{Some, None, ◌≡◌, List, [], ◌∷◌, ◌++◌, map, ℕ, ◌+◌, ◌≤◌, ◌<◌, length, take, set, if◌then◌else◌}
use Rattle.std.proofs.Math.Option.{Option, none, some}
use Rattle.format.specs.Basics.{is_empty}
use Rattle.format.specs.ObjectFile.{LineBlock}
use Rattle.format.specs.Records.{line_block}
use Rattle.format.specs.Words.{word, memory_word, number_words, record_words}
use Rattle.text_tables.specs.Debug.{line_view}
use Rattle.text_debug.specs.LineRuns.{address_in}
use Rattle.text_runs.specs.declared.Run.{Run}

-- the addresses of the rows from a place on
abbrev pub addresses_from : List ℕ → ℕ → List (Option ℕ)
addresses_from t at = map address_in (line_view t at).0

-- n rows with an address, one without, and the place after it
pub record RunEnds (t : List ℕ) (at n next : ℕ) : Type 0 where
  pub run : List ℕ
  pub count : length run ≡ n
  pub on : at + n < next
  pub inside : next ≤ length t
  pub same : addresses_from t at ≡ map some run ++ none ∷ addresses_from t next

-- words that are kept are those of the next n rows, if there is room for them all
abbrev pub Kept : List ℕ → ℕ → ℕ → List ℕ → Type 0
Kept t at n kept = n ≤ length kept → take n kept ≡ map memory_word (take n (addresses_from t at))

-- "a run reaching the last row is dropped"
abbrev pub NextRun : List ℕ → ℕ → List ℕ → std.Option Run → Type 0
NextRun t at kept (Some r) = RunEnds t at r.count r.next × Kept t at r.count kept
NextRun t at kept None = (run : List ℕ) × (addresses_from t at ≡ map some run)

-- a word is kept after n others, if there is room
abbrev pub KeepsWord : ℕ → ℕ → List ℕ → List ℕ → Type 0
KeepsWord n w kept after = n < length kept → after ≡ set kept n w

-- the words of line blocks, each a part
abbrev pub block_words : List LineBlock → List (List ℕ)
block_words ls = map record_words (map line_block ls)

-- "3 line block: then a number (first line) and its addresses"
unfoldable pub run_words : ℕ → List (Option ℕ) → List ℕ
run_words first xs = word 3 0 ∷ number_words first ++ map memory_word xs

-- the part that a run makes: none of an empty one
unfoldable pub run_parts : ℕ → List (Option ℕ) → List (List ℕ)
run_parts first xs = if is_empty xs then [] else run_words first xs ∷ []
