-- The words of the object of a binary file, part by part as they are written. Assumes nothing.
use Rattle.std.specs.Prelude.{Bool, not, ◌||◌, ℕ, if◌then◌else◌}
use mathlib.Core.List.{List, [], ◌++◌, flat_map}
use Rattle.format.specs.Basics.{is_empty, is_some}
use Rattle.format.specs.Records.{source_records}
use Rattle.format.specs.Words.{record_words}
use Rattle.gather.specs.Places.{places_of}
use Rattle.binary_words.specs.RecordAt.{source_of, part_words}

-- the words of the source, none where it does not exist
abbrev pub source_words : List ℕ → List ℕ
source_words s = flat_map record_words (source_records (source_of s))

-- "No label and no source: relocations are dropped."
unfoldable pub keeps_relocations : List ℕ → Bool
keeps_relocations s = not (is_empty (places_of 1 s)) || is_some (source_of s)

abbrev pub relocation_words : List ℕ → List ℕ  -- the words of the relocations that are not dropped
relocation_words s = if keeps_relocations s then part_words 4 s else []

-- the words of all five parts
unfoldable pub object_words : List ℕ → List ℕ
object_words s = part_words 0 s ++ (part_words 1 s ++ (part_words 2 s ++ (source_words s ++ relocation_words s)))
