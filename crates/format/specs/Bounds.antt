-- How many words are room enough for what a reader gives, by the length of the file (document 02, P13), as statements. Assumes nothing.
use Rattle.std.specs.Prelude.{◌≡◌, List, [], ◌∷◌, ◌++◌, ℕ, zero, suc, ◌+◌, ◌-◌, ◌*◌, ◌/◌, ◌≤◌, ◌<◌, length}
use Rattle.format.specs.Basics.{Outcome, given}
use Rattle.format.specs.Records.{line_block}
use Rattle.format.specs.Binary.{header, record_bytes}
use Rattle.format.specs.Calls.{read_binary, Filled, ReadsBinary}

-- "(n - 7) / 2 words, rounded down", of a binary file of n bytes; 0 below 7, where every file is refused
abbrev pub binary_room : ℕ → ℕ
binary_room n = (n - 7) / 2

-- of a text file of n bytes: a word for each byte
abbrev pub text_room : ℕ → ℕ
text_room n = n

-- "the holding of an accepted binary of n bytes has at most (n - 7) / 2 words": of a reader and its room
abbrev pub WordsFit : (List ℕ → Outcome (List ℕ)) → (ℕ → ℕ) → Type 0
WordsFit read room = (bs ws : List ℕ) → read bs ≡ given ws → length ws ≤ room (length bs)

-- "so that a binary read lent this many never gives 3": of a call's promise, for every file and every buffer that has this room
abbrev pub NeverShort : (List ℕ → List ℕ → Filled → Type 0) → (ℕ → ℕ) → Type 0
NeverShort Reads room = (bs buffer : List ℕ) (r : Filled) → room (length bs) ≤ length buffer → Reads bs buffer r → ¬ (r.number ≡ 3)

-- THE BOUND IS MET, by a line block alone, for every count of addresses that a record has

-- n numbers from a on
unfoldable pub numbers_from : ℕ → ℕ → List ℕ
numbers_from a zero = []
numbers_from a (suc n) = a ∷ numbers_from (suc a) n

-- the file of one line block with k addresses, and no source record: "02 or 03 makes the source exist"
unfoldable pub line_file : ℕ → List ℕ
line_file k = header ++ record_bytes (line_block (record { first = 0; addresses = numbers_from 0 k }))

-- it is read, and its object has as many words as the bound says
abbrev pub RoomMet : Type 0
RoomMet =
    (k : ℕ) → k ≤ 65535
    → (length (line_file k) ≡ 18 + 2 * k) × (ws : List ℕ) × (read_binary (line_file k) ≡ given ws) × (length ws ≡ binary_room (18 + 2 * k))

-- so that with fewer words a read gives 3
abbrev pub RoomNeeded : Type 0
RoomNeeded =
    (k : ℕ) → k ≤ 65535 → (buffer : List ℕ) (r : Filled) → length buffer < binary_room (length (line_file k))
    → ReadsBinary (line_file k) buffer r → r.number ≡ 3

unfoldable pub open-Bounds : Unit {0}
unfolding numbers_from line_file
open-Bounds = tt
