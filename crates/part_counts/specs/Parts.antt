-- How many records of each kind an object has. Assumes nothing.
use Rattle.std.specs.Prelude.{List, [], ◌∷◌, ℕ, ◌+◌, ◌/◌, ◌^◌, length, eqb, if◌then◌else◌}
use Rattle.format.specs.ObjectFile.{ObjectFile}
use Rattle.format.specs.Records.{source_records}
use Rattle.part_counts.specs.declared.PartCounts.{PartCounts}

-- 1 for a word of this kind, the top 3 bits, and 0 for another
unfoldable pub indicator : ℕ → ℕ → ℕ
indicator kind w = if eqb (w / 2 ^ 29) kind then 1 else 0

-- how many words are of a kind
unfoldable pub of_kind : ℕ → List ℕ → ℕ
of_kind kind [] = 0
of_kind kind (w ∷ ws) = indicator kind w + of_kind kind ws

-- "0 block", "2 label", "3 line block", "4 source", "5 relocation": how many words begin a record of each kind
unfoldable pub part_counts : List ℕ → PartCounts
part_counts ws = record {
  blocks = of_kind 0 ws;
  labels = of_kind 2 ws;
  line_blocks = of_kind 3 ws;
  sources = of_kind 4 ws;
  relocations = of_kind 5 ws;
}

-- how many elements each part of an object has
unfoldable pub counts_of : ObjectFile → PartCounts
counts_of h = record {
  blocks = length h.blocks;
  labels = length h.labels;
  line_blocks = length h.line_blocks;
  sources = length (source_records h.source);
  relocations = length h.relocations;
}
