-- The record that stands at a place of a binary file, for every place, and the object that the places make. Assumes nothing.
use Rattle.std.specs.Prelude.{not, ◌&&◌, ℕ, ◌+◌, ◌*◌, length, eqb, if◌then◌else◌}
use mathlib.Core.List.{List, [], map, flat_map}
use Rattle.std.proofs.Math.Option.{Option, none, some}
use Rattle.format.specs.Basics.{is_empty}
use Rattle.format.specs.Sorted.{sorted}
use Rattle.format.specs.ObjectFile.{Block, Label, LineBlock, Relocation, ObjectFile}
use Rattle.format.specs.Records.{block, label, line_block, relocation}
use Rattle.format.specs.Binary.{bytes_at, number_at, memories_from, addresses_from}
use Rattle.format.specs.Words.{record_words}
use Rattle.gather.specs.Places.{places_of, key_at}

module _ (s : List ℕ) (p : ℕ) where
  -- "00: address 2, count 2, then 3 bytes per word"
  abbrev pub block_at : Block
  block_at = record { address = number_at (p + 1) 2 s; words = memories_from (bytes_at (p + 5) (3 * number_at (p + 3) 2 s) s) }

  -- "01: address 2, external 1, source start 8, length 8, name."
  abbrev pub label_at : Label
  label_at = record {
    name = bytes_at (p + 20) (number_at (p + 12) 8 s) s;
    address = number_at (p + 1) 2 s;
    external = not (eqb (number_at (p + 3) 1 s) 0);
    start = number_at (p + 4) 8 s;
  }

  -- "02: first line 8, count 2, addresses."
  abbrev pub line_block_at : LineBlock
  line_block_at = record { first = number_at (p + 1) 8 s; addresses = addresses_from (bytes_at (p + 11) (2 * number_at (p + 9) 2 s) s) }

  -- "03: length 8, source."
  abbrev pub chunk_at : List ℕ
  chunk_at = bytes_at (p + 9) (number_at (p + 1) 8 s) s

  -- "04: address 2, length 8, name. .. read low byte first."
  abbrev pub relocation_at : Relocation
  relocation_at = record { address = number_at (p + 1) 2 s; name = bytes_at (p + 11) (number_at (p + 3) 8 s) s }

-- the places of a kind in the order of their keys
abbrev pub in_order : ℕ → List ℕ → List ℕ
in_order kind s = sorted (key_at kind s) (places_of kind s)

-- "03 chunks append; 02 or 03 makes the source exist"
unfoldable pub source_of : List ℕ → Option (List ℕ)
source_of s =
    if is_empty (places_of 2 s) && is_empty (places_of 3 s) then none else some (flat_map (chunk_at s) (places_of 3 s))

-- the object of a file whose records are in order, before the questions after the last record
unfoldable pub object_at : List ℕ → ObjectFile
object_at s = record {
  blocks = map (block_at s) (in_order 0 s);
  labels = map (label_at s) (in_order 1 s);
  line_blocks = map (line_block_at s) (in_order 2 s);
  source = source_of s;
  relocations = map (relocation_at s) (in_order 4 s);
}

-- the words of the record of a kind at a place; a kind that has no key has none
unfoldable pub words_at : ℕ → List ℕ → ℕ → List ℕ
words_at kind s p =
    if eqb kind 0 then record_words (block (block_at s p))
    else if eqb kind 1 then record_words (label (label_at s p))
    else if eqb kind 2 then record_words (line_block (line_block_at s p))
    else if eqb kind 4 then record_words (relocation (relocation_at s p))
    else []

-- the words of all records of a kind, in the order of their keys
abbrev pub part_words : ℕ → List ℕ → List ℕ
part_words kind s = flat_map (words_at kind s) (in_order kind s)

-- how many bytes its body has, less those that are not there
unfoldable pub body_length : ℕ → List ℕ → ℕ → ℕ
body_length kind s p =
    if eqb kind 0 then length (bytes_at (p + 5) (3 * number_at (p + 3) 2 s) s)
    else if eqb kind 1 then length (bytes_at (p + 20) (number_at (p + 12) 8 s) s)
    else if eqb kind 2 then length (bytes_at (p + 11) (2 * number_at (p + 9) 2 s) s)
    else length (bytes_at (p + 11) (number_at (p + 3) 8 s) s)
