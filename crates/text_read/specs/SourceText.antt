-- The source of a text file, unescaped. Assumes nothing.
use Rattle.std.specs.Prelude.{◌≡◌, ℕ, ◌^◌, ◌<◌, length}
use mathlib.Core.List.{List, flat_map}
use Rattle.format.specs.Basics.{given}
use Rattle.format.specs.TextReader.{unescape}
use Rattle.text_tables.specs.Debug.{line_view}
use Rattle.text_source.specs.Stream.{source_from}
use Rattle.text_debug.specs.declared.Lines.{Lines}
use Rattle.text_debug.specs.LineTable.{source_in}
use Rattle.text_debug.specs.DebugGroup.{line_blocks_in}
use Rattle.text_runs.specs.Runs.{block_words}

-- the source in the rows from a place on
abbrev pub source_at : List ℕ → ℕ → List ℕ
source_at t rows = source_in (line_view t rows).0

-- the rows from a place on unescape
abbrev pub Unescapes : List ℕ → ℕ → Type 0
Unescapes t rows = unescape (source_from t rows) ≡ given (source_at t rows)

-- what they make: the bytes of the source, which 64 bits can count, and the words of the line blocks
abbrev pub Counted : List ℕ → ℕ → Lines → Type 0
Counted t rows lines =
    (lines.len ≡ length (source_at t rows)) × (lines.len < 2 ^ 63)
    × (lines.words ≡ length (flat_map (λ p. p) (block_words (line_blocks_in (line_view t rows).0))))
