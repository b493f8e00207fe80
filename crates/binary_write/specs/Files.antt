-- Binary write: the file of an object after the bytes that begin it, and the bytes of its records by their words. Assumes nothing.
use Rattle.std.specs.Prelude.{◌≡◌, ℕ, ◌+◌, ◌%◌, ◌^◌, ◌≤◌, length, eqb, if◌then◌else◌}
use mathlib.Core.List.{List, [], ◌∷◌, ◌++◌, flat_map}
use Rattle.format.specs.Basics.{Outcome, given, ◌>>=◌, ask}
use Rattle.format.specs.ObjectFile.{Label, Relocation}
use Rattle.format.specs.Records.{Record, block, label, line_block, source, relocation, records_of}
use Rattle.format.specs.Words.{object_of, flag_bit}
use Rattle.format.specs.Binary.{number_bytes, memory_bytes, record_bytes, counts_fit}
use Rattle.format.specs.Calls.{Filled, OrdersOf, in_order, fill}
use Rattle.writing.specs.Written.{Put}
use Rattle.object.specs.Bodies.{Text}
use Rattle.object.specs.Access.{memory_in, address_in}
use Rattle.binary_measure.specs.Measured.{text_of}

-- binary write, "Is it well formed? 1", "At most 65,535 addresses per line block? 2", and the file: the bytes `front`, and the records
-- with labels and relocations in the orders given
unfoldable pub file_after : List ℕ → List ℕ → List Label → List Relocation → Outcome (List ℕ)
file_after front ws ls rs = do
  h ← object_of ws
  _ ← ask 2 (counts_fit h)
  given (front ++ flat_map record_bytes (records_of (in_order h ls rs)))

-- "Labels among themselves, and relocations among themselves, come in any order, each once: the one free answer"
abbrev pub WritesAfter : List ℕ → List ℕ → List ℕ → Filled → Type 0
WritesAfter front ws buffer r =
    (ls : List Label) × (rs : List Relocation) × OrdersOf ws ls rs × (r ≡ fill (file_after front ws ls rs) buffer)

-- THE PARTS OF A RECORD, by its words

-- "FF and value, or 00 00 00": the first of the three bytes
abbrev pub flag_of : ℕ → ℕ
flag_of w = if eqb (w % 2 ^ 29) 0 then 0x00 else 0xFF

-- "3 bytes per word", of memory words
unfoldable pub memory_part : List ℕ → List ℕ
memory_part ws = flat_map (λ w. memory_bytes (memory_in w)) ws

-- "addresses", of the words that hold them
unfoldable pub address_part : List ℕ → List ℕ
address_part ws = flat_map (λ w. number_bytes 2 (address_in w)) ws

-- "length 8, name" and "length 8, source"
unfoldable pub sized : List ℕ → List ℕ
sized t = number_bytes 8 (length t) ++ t

-- what a record's bytes begin with: its kind and its numbers
unfoldable pub start_bytes : Record → List ℕ
start_bytes (block b) = 0x00 ∷ number_bytes 2 b.address ++ number_bytes 2 (length b.words)
start_bytes (label l) = 0x01 ∷ number_bytes 2 l.address ++ flag_bit l.external ∷ number_bytes 8 l.start
start_bytes (line_block l) = 0x02 ∷ number_bytes 8 l.first ++ number_bytes 2 (length l.addresses)
start_bytes (source s) = 0x03 ∷ []
start_bytes (relocation r) = 0x04 ∷ number_bytes 2 r.address

-- what comes then, of a record of kind k: by the words of its list or text, and where these begin
unfoldable pub content_of : ℕ → List ℕ → List ℕ
content_of k ws = if eqb k 0 then memory_part ws else if eqb k 3 then address_part ws else sized (text_of ws)

abbrev pub content_place : ℕ → ℕ → ℕ
content_place k at = if eqb k 2 then at + 1 + 3 else if eqb k 3 then at + 1 + 3 else at + 1

-- where it is no list, it is a text
abbrev pub Content : ℕ → List ℕ → Type 0
Content k ws = (k ≡ 0 → ⊥) → (k ≡ 3 → ⊥) → Text ws

-- there is room for a record
abbrev pub RoomFor : Record → List ℕ → Type 0
RoomFor r room = length (record_bytes r) ≤ length room

-- what the writer of a record returns and leaves in the room
abbrev pub PutRecord : Record → List ℕ → ℕ → List ℕ → Type 0
PutRecord r room n after = Put (record_bytes r) room n after
