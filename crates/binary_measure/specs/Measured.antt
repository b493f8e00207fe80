-- Where the records of an object stand, and what is asked of it before it is written in the binary form. Assumes nothing.
use Rattle.std.specs.Prelude.{◌≡◌, Bool, true, ℕ, ◌+◌, ◌≤◌, ◌<◌, length, get_or, leb, eqb, if◌then◌else◌}
use mathlib.Core.List.{List, [], flat_map}
use Rattle.format.specs.Basics.{given, given_or, every}
use Rattle.format.specs.Records.{Record, block, label, line_block, source, relocation}
use Rattle.format.specs.Words.{is_head, text_from, record_from, records_from}
use Rattle.format.specs.Binary.{record_bytes}
use Rattle.format.specs.Calls.{checked}
use Rattle.object.specs.Bodies.{body_at, groups_at, Text}
use Rattle.object.specs.Access.{record_at}

-- the bytes of text words
abbrev pub text_of : List ℕ → List ℕ
text_of ws = given_or (text_from ws) []

-- the words that go on at a place end at another
abbrev pub Ends : List ℕ → ℕ → ℕ → Type 0
Ends ws at end = (end ≡ at + length (body_at ws at)) × (end ≤ length ws)

-- words that go on up to a place, and are a text
abbrev pub TextEnds : List ℕ → ℕ → ℕ → Type 0
TextEnds ws at end = Text (body_at ws at) × Ends ws at end

-- a record begins at a place
abbrev pub Begins : List ℕ → ℕ → Type 0
Begins ws at = (at < length ws) × (record_from (get_or ws at 0, body_at ws (at + 1)) ≡ given (record_at ws at))

-- a record stands at a place, and its words end at another
pub record Stands (ws : List ℕ) (at end : ℕ) : Type 0 where
  pub inside : at < length ws
  pub begins : is_head (get_or ws at 0) ≡ true
  pub reads : record_from (get_or ws at 0, body_at ws (at + 1)) ≡ given (record_at ws at)
  pub ends : Ends ws (at + 1) end

-- the records of well formed words, and their bytes
unfoldable pub records_in : List ℕ → List Record
records_in ws = given_or (records_from (groups_at ws 0)) []

abbrev pub bytes_in : List ℕ → List ℕ
bytes_in ws = flat_map record_bytes (records_in ws)

-- "At most 65,535 addresses per line block?", of a record
unfoldable pub count_fits : Record → Bool
count_fits (block b) = true
count_fits (label l) = true
count_fits (line_block l) = leb (length l.addresses) 65535
count_fits (source s) = true
count_fits (relocation r) = true

-- what is asked of well formed words, with so many bytes before the records and so much room: 2, then 3
unfoldable pub room_number : List ℕ → ℕ → ℕ → ℕ
room_number ws used room =
    if every count_fits (records_in ws) then (if leb (used + length (bytes_in ws)) room then 0 else 3) else 2

-- where a text ends that stands at a place
abbrev pub EndsText : List ℕ → ℕ → ℕ → Type 0
EndsText ws at r = Text (body_at ws at) → r ≡ at + length (body_at ws at)

-- where a record ends that begins at a place
abbrev pub EndsRecord : List ℕ → ℕ → ℕ → Type 0
EndsRecord ws at r = Begins ws at → r ≡ at + 1 + length (body_at ws (at + 1))

-- "Is it well formed? 1", and then the same
unfoldable pub write_number : List ℕ → ℕ → ℕ → ℕ
write_number ws used room = if eqb (checked ws) 0 then room_number ws used room else checked ws
