-- The records of an object by their places: what stands in the words of each, for every slice of words and every place. That a well formed
-- object's records are these is said in proofs/AccessLaws. Assumes nothing.
use Rattle.std.specs.Prelude.{List, map, ℕ, ◌+◌, ◌/◌, ◌%◌, ◌^◌, get_or, leb, eqb, if◌then◌else◌}
use Rattle.std.proofs.Math.Option.{Option, none, some}
use Rattle.format.specs.ObjectFile.{Block, Label, LineBlock, Relocation}
use Rattle.format.specs.Records.{Record, block, label, line_block, source, relocation}
use Rattle.object.specs.Bodies.{body_at, text_at, number_at}

-- a memory word, and the address of a line
unfoldable pub memory_in : ℕ → Option ℕ
memory_in w = if eqb (w % 2 ^ 29) 0 then none else some (w % 2 ^ 16)

abbrev pub address_in : ℕ → ℕ
address_in w = w % 2 ^ 16

module _ (ws : List ℕ) (at : ℕ) where
  abbrev pub kind_at : ℕ
  kind_at = get_or ws at 0 / 2 ^ 29

  abbrev pub block_at : Block
  block_at = record { address = address_in (get_or ws at 0); words = map memory_in (body_at ws (at + 1)) }

  abbrev pub label_at : Label
  label_at = record {
    name = text_at ws (at + 1 + 3);
    address = address_in (get_or ws at 0);
    external = leb (2 ^ 16) (get_or ws at 0 % 2 ^ 29);
    start = number_at ws (at + 1);
  }

  abbrev pub line_block_at : LineBlock
  line_block_at = record { first = number_at ws (at + 1); addresses = map address_in (body_at ws (at + 1 + 3)) }

  abbrev pub relocation_at : Relocation
  relocation_at = record { address = address_in (get_or ws at 0); name = text_at ws (at + 1) }

  -- the record that begins at a place, by its kind
  unfoldable pub record_at : Record
  record_at =
      if eqb kind_at 0 then block block_at
      else if eqb kind_at 2 then label label_at
      else if eqb kind_at 3 then line_block line_block_at
      else if eqb kind_at 4 then source (text_at ws (at + 1))
      else relocation relocation_at
