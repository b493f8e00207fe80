-- The source column of the line table as one text: a cursor over its bytes, which lie in pieces.
-- Assumes nothing.
use Rattle.std.specs.Prelude.{Option, Some, None, ◌≡◌, ℕ, ◌<◌, ◌≤◌, List, [], ◌∷◌, ◌++◌, length, nat_lt, slice_index_or, if◌then◌else◌}
use mathlib.Core.List.{flat_map}
use Rattle.format.specs.TextReader.{splitn}
use Rattle.text_source.specs.declared.Source.{Source}
use Rattle.trim.specs.Span.{part}
use Rattle.text_tables.specs.Debug.{line_view}

-- a row's source cell
abbrev pub source_cell : List ℕ → List ℕ
source_cell l = slice_index_or (splitn 2 l) 2 []

-- the source left, from a line on
unfoldable pub source_from : List ℕ → ℕ → List ℕ
source_from t at = flat_map source_cell (line_view t at).0

-- and from a byte on
abbrev pub bytes_left : List ℕ → Source → List ℕ
bytes_left t c = part c.at c.end t ++ source_from t c.next

-- the smaller of the two
unfoldable pub at_most : ℕ → ℕ → ℕ
at_most x most = if nat_lt most x then most else x

-- the same bytes are left from a cursor that is at one of them
abbrev pub NextPiece : List ℕ → Source → Option Source → Type 0
NextPiece t c (Some d) = (bytes_left t c ≡ bytes_left t d) × (d.at < d.end) × (d.end ≤ length t)
NextPiece t c None = bytes_left t c ≡ []

abbrev pub NextByte : List ℕ → Source → Option (ℕ × Source) → Type 0
NextByte t c (Some p) = bytes_left t c ≡ p.0 ∷ bytes_left t p.1
NextByte t c None = bytes_left t c ≡ []
