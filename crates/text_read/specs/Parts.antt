-- The words of a text file's object, part by part as they are written: from the trimmed file u, and from the file t up to the end of what
-- trimming leaves, where the rows of the line table are. Assumes nothing.
use Rattle.std.specs.Prelude.{Bool, ◌&&◌, not, ℕ, ◌+◌, ◌/◌, length, if◌then◌else◌}
use mathlib.Core.List.{List, [], ◌++◌, map, flat_map}
use Rattle.std.proofs.Math.Option.{Option}
use Rattle.format.specs.Basics.{is_empty, and_then}
use Rattle.format.specs.Sorted.{sorted}
use Rattle.format.specs.Records.{source_records}
use Rattle.format.specs.Words.{record_words}
use Rattle.text_tables.specs.Debug.{line_view}
use Rattle.text_scan.specs.Walk.{line_blocks_of, source_of}
use Rattle.text_rows.specs.Rows.{row_key, rows_of}
use Rattle.text_labels.specs.Labels.{labels_of}
use Rattle.text_words.specs.Room.{room_for, room_after}
use Rattle.text_debug.specs.declared.Lines.{Lines}
use Rattle.text_runs.specs.Runs.{block_words}
use Rattle.known_labels.specs.Known.{label_parts}

abbrev pub joined : List (List ℕ) → List ℕ  -- parts one after the other
joined ps = flat_map (λ p. p) ps

abbrev pub row_parts : ℕ → List ℕ → List (List ℕ)  -- the words of each row of a kind
row_parts kind u = map record_words (sorted row_key (rows_of kind u))

abbrev pub line_parts : Bool → List ℕ → ℕ → List (List ℕ)  -- of each line block
line_parts sourced t rows = block_words (line_blocks_of sourced (line_view t rows).0)

abbrev pub source_parts : Bool → List ℕ → ℕ → List (List ℕ)  -- of the source
source_parts sourced t rows = map record_words (source_records (source_of sourced (line_view t rows).0))

unfoldable pub relocation_parts : Bool → List ℕ → List (List ℕ)  -- of each relocation, if they are kept
relocation_parts kept u = if kept then row_parts 2 u else []

-- "Relocations are dropped as in binary": without labels and source
unfoldable pub keeps_relocations : Bool → List ℕ → Bool
keeps_relocations sourced u = not (is_empty (labels_of u) && not sourced)

-- all five
unfoldable pub object_parts : List ℕ → List ℕ → Bool → ℕ → List (List ℕ)
object_parts u t sourced rows =
    row_parts 0 u
    ++ (label_parts u ++ (line_parts sourced t rows ++ (source_parts sourced t rows ++ relocation_parts (keeps_relocations sourced u) u)))

abbrev pub front_parts : List ℕ → List (List ℕ)  -- the first two of them
front_parts u = row_parts 0 u ++ label_parts u

abbrev pub back_parts : List ℕ → List ℕ → Bool → ℕ → Bool → List (List ℕ)  -- and the last three
back_parts u t sourced rows kept = line_parts sourced t rows ++ (source_parts sourced t rows ++ relocation_parts kept u)

-- how many words line blocks and source have, as a scan counts them
unfoldable pub debug_words : Bool → Lines → ℕ
debug_words sourced lines = if sourced then lines.words + (1 + (lines.len + 2) / 3) else 0

-- how many words blocks, line blocks and source have, and how many the labels and relocations
abbrev pub fixed_words : List ℕ → List ℕ → Bool → ℕ → ℕ
fixed_words u t sourced rows =
    length (joined (row_parts 0 u)) + (length (joined (line_parts sourced t rows)) + length (joined (source_parts sourced t rows)))

abbrev pub rest_words : List ℕ → Bool → ℕ
rest_words u sourced = length (joined (label_parts u)) + length (joined (relocation_parts (keeps_relocations sourced u) u))

-- the room after n words and parts
unfoldable pub others_room : ℕ → List (List ℕ) → ℕ → Option ℕ
others_room n ps room = and_then (room_for n room) λ left. room_after ps left
