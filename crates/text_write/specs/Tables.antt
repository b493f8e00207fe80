-- The parts of the text form by the words of an object. Assumes nothing.
use mathlib.Core.List.{List, [], flat_map}
use Rattle.std.specs.Prelude.{ℕ, eqb, if◌then◌else◌}
use Rattle.format.specs.Basics.{given_or}
use Rattle.format.specs.ObjectFile.{ObjectFile}
use Rattle.format.specs.Records.{empty_object}
use Rattle.format.specs.Words.{object_of}
use Rattle.format.specs.TextWriter.{text_line, block_lines, linker_row}
use Rattle.object.specs.Access.{kind_at, block_at, relocation_at}

-- the object of well formed words; an empty one of others, which no caller has
abbrev pub object_in : List ℕ → ObjectFile
object_in ws = given_or (object_of ws) empty_object

-- the lines of an object's blocks
unfoldable pub block_table : ObjectFile → List ℕ
block_table h = flat_map block_lines h.blocks

abbrev pub blocks_text : List ℕ → List ℕ  -- of the object in words
blocks_text ws = block_table (object_in ws)

-- the lines of the record at a place: none unless it is a block
unfoldable pub block_part : List ℕ → ℕ → List ℕ
block_part ws at = if eqb (kind_at ws at) 0 then block_lines (block_at ws at) else []

-- the rows of an object's relocations
unfoldable pub relocation_rows : ObjectFile → List ℕ
relocation_rows h = flat_map (λ q. text_line (linker_row q)) h.relocations

abbrev pub relocations_text : List ℕ → List ℕ  -- of the object in words
relocations_text ws = relocation_rows (object_in ws)

-- the row of the record at a place: none unless it is a relocation
unfoldable pub relocation_part : List ℕ → ℕ → List ℕ
relocation_part ws at = if eqb (kind_at ws at) 5 then text_line (linker_row (relocation_at ws at)) else []
