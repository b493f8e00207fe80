-- The binary form (document 01, "Binary form (000)"): the file of an object, and the object of a file by the questions 10 to 15.
-- Assumes nothing.
use Rattle.std.specs.Prelude.{Bool, not, ℕ, ◌+◌, ◌*◌, length, take, drop, leb, eqb, if◌then◌else◌}
use mathlib.Core.List.{List, [], ◌∷◌, ◌++◌, flat_map}
use Rattle.std.proofs.Math.Option.{Option, none, some}
use Rattle.format.specs.Basics.{Outcome, refused, given, ◌>>=◌, ask, every, begins_with}
use Rattle.format.specs.Digits.{value_of, digits_of}
use Rattle.format.specs.Tokens.{tokens}
use Rattle.format.specs.Utf8.{is_utf8}
use Rattle.format.specs.ObjectFile.{ObjectFile, strictly_rise}
use Rattle.format.specs.Records.{Record, block, label, line_block, source, relocation, records_of}
use Rattle.format.specs.Records.{gather_records, empty_object, binary_questions, concluded}
use Rattle.format.specs.Words.{flag_bit}

-- "Header 6F 62 6A 21 10 00 01": magic, five bytes, and version, two
unfoldable pub magic : List ℕ
magic = 0x6F ∷ 0x62 ∷ 0x6A ∷ 0x21 ∷ 0x10 ∷ []

unfoldable pub version : List ℕ  -- "magic and version belong to the binary format itself"
version = 0x00 ∷ 0x01 ∷ []

unfoldable pub header : List ℕ  -- "Header 6F 62 6A 21 10 00 01"
header = magic ++ version

-- WRITING

-- "Numbers low byte first": a number of n bytes
abbrev pub number_bytes : ℕ → ℕ → List ℕ
number_bytes n x = digits_of 8 n x

-- "3 bytes per word: FF and value, or 00 00 00"
abbrev pub memory_bytes : Option ℕ → List ℕ
memory_bytes none = 0x00 ∷ 0x00 ∷ 0x00 ∷ []
memory_bytes (some v) = 0xFF ∷ number_bytes 2 v

unfoldable pub record_bytes : Record → List ℕ  -- "Binary form": the records, by kind
-- "00: address 2, count 2, then 3 bytes per word"
record_bytes (block b) =
    0x00 ∷ number_bytes 2 b.address ++ number_bytes 2 (length b.words) ++ flat_map memory_bytes b.words
-- "01: address 2, external 1, source start 8, length 8, name."
record_bytes (label l) =
    0x01 ∷ number_bytes 2 l.address ++ number_bytes 1 (flag_bit l.external) ++ number_bytes 8 l.start
    ++ number_bytes 8 (length l.name) ++ l.name
-- "02: first line 8, count 2, addresses."
record_bytes (line_block l) =
    0x02 ∷ number_bytes 8 l.first ++ number_bytes 2 (length l.addresses) ++ flat_map (number_bytes 2) l.addresses
-- "03: length 8, source."
record_bytes (source s) = 0x03 ∷ number_bytes 8 (length s) ++ s
-- "04: address 2, length 8, name."; "relocation addresses in binary are written as all other addresses are" (P10)
record_bytes (relocation r) = 0x04 ∷ number_bytes 2 r.address ++ number_bytes 8 (length r.name) ++ r.name

-- "Written in this order, blocks and line blocks rising": with labels and relocations in the order in which they stand in the object
unfoldable pub binary_file : ObjectFile → List ℕ
binary_file h = header ++ flat_map record_bytes (records_of h)

-- "At most 65,535 addresses per line block? 2"
unfoldable pub counts_fit : ObjectFile → Bool
counts_fit h = every (λ l. leb (length l.addresses) 65535) h.line_blocks

-- READING

-- n bytes at a place
abbrev pub bytes_at : ℕ → ℕ → List ℕ → List ℕ
bytes_at at n bs = take n (drop at bs)

-- the number in n bytes at a place
abbrev pub number_at : ℕ → ℕ → List ℕ → ℕ
number_at at n bs = value_of 8 (bytes_at at n bs)

abbrev pub has_bytes : ℕ → List ℕ → Bool  -- "All its bytes there?"
has_bytes n bs = leb n (length bs)

-- "a flag other than FF means uninitialised"; there are always 3 bytes to a word
unfoldable pub memories_from : List ℕ → List (Option ℕ)
memories_from [] = []
memories_from (f ∷ []) = []
memories_from (f ∷ a ∷ []) = []
memories_from (f ∷ a ∷ b ∷ bs) = (if eqb f 0xFF then some (value_of 8 (a ∷ b ∷ [])) else none) ∷ memories_from bs

-- there are always 2 bytes to an address
unfoldable pub addresses_from : List ℕ → List ℕ
addresses_from [] = []
addresses_from (a ∷ []) = []
addresses_from (a ∷ b ∷ bs) = value_of 8 (a ∷ b ∷ []) ∷ addresses_from bs

-- Each kind's record, from the bytes after its kind byte, and how many of them it has: "All its bytes there? 12" (a count or a length is
-- read only where its bytes are there), "Name or source chunk UTF-8? 13", "Line addresses strictly rising? 14"
unfoldable pub block_from : List ℕ → Outcome (Record × ℕ)
block_from bs = do
  _ ← ask 12 (has_bytes 4 bs)
  let n = number_at 2 2 bs
  _ ← ask 12 (has_bytes (4 + 3 * n) bs)
  given (block (record { address = number_at 0 2 bs; words = memories_from (bytes_at 4 (3 * n) bs) }), 4 + 3 * n)

-- "external is any nonzero"
unfoldable pub label_from : List ℕ → Outcome (Record × ℕ)
label_from bs = do
  _ ← ask 12 (has_bytes 19 bs)
  let n = number_at 11 8 bs
  _ ← ask 12 (has_bytes (19 + n) bs)
  let name = bytes_at 19 n bs
  _ ← ask 13 (is_utf8 name)
  let external = not (eqb (number_at 2 1 bs) 0)
  given (label (record { name = name; address = number_at 0 2 bs; external = external; start = number_at 3 8 bs }), 19 + n)

unfoldable pub lines_from : List ℕ → Outcome (Record × ℕ)  -- "02: first line 8, count 2, addresses."
lines_from bs = do
  _ ← ask 12 (has_bytes 10 bs)
  let n = number_at 8 2 bs
  _ ← ask 12 (has_bytes (10 + 2 * n) bs)
  let addresses = addresses_from (bytes_at 10 (2 * n) bs)
  _ ← ask 14 (strictly_rise addresses)
  given (line_block (record { first = number_at 0 8 bs; addresses = addresses }), 10 + 2 * n)

unfoldable pub source_from : List ℕ → Outcome (Record × ℕ)  -- "03: length 8, source."
source_from bs = do
  _ ← ask 12 (has_bytes 8 bs)
  let n = number_at 0 8 bs
  _ ← ask 12 (has_bytes (8 + n) bs)
  let text = bytes_at 8 n bs
  _ ← ask 13 (is_utf8 text)
  given (source text, 8 + n)

-- "read low byte first"
unfoldable pub relocation_from : List ℕ → Outcome (Record × ℕ)
relocation_from bs = do
  _ ← ask 12 (has_bytes 10 bs)
  let n = number_at 2 8 bs
  _ ← ask 12 (has_bytes (10 + n) bs)
  let name = bytes_at 10 n bs
  _ ← ask 13 (is_utf8 name)
  given (relocation (record { address = number_at 0 2 bs; name = name }), 10 + n)

-- "kind 0 to 4? 11"; it is asked of a byte that is there
unfoldable pub record_at : List ℕ → Outcome (Record × ℕ)
record_at [] = refused 11
record_at (k ∷ bs) =
    if eqb k 0 then block_from bs
    else if eqb k 1 then label_from bs
    else if eqb k 2 then lines_from bs
    else if eqb k 3 then source_from bs
    else if eqb k 4 then relocation_from bs
    else refused 11

-- "Do the seven header bytes come first? 10", "Then per record"
unfoldable pub binary_records : List ℕ → Outcome (List Record)
binary_records bs = do
  _ ← ask 10 (begins_with header bs)
  tokens record_at 0 (drop 7 bs)

unfoldable pub binary_object : List ℕ → Outcome ObjectFile  -- binary read: the records gathered, and the last questions
binary_object bs = do
  rs ← binary_records bs
  concluded binary_questions (gather_records empty_object rs)

unfoldable pub open-Binary : Unit {0}
unfolding magic version header record_bytes binary_file counts_fit memories_from addresses_from block_from label_from lines_from source_from
    relocation_from record_at binary_records binary_object
open-Binary = tt
