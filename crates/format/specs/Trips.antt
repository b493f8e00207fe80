-- Trips (document 01, "Trips"), and demand 3 as one statement about every list of them. Assumes nothing.
use Rattle.std.specs.Prelude.{◌≡◌, Bool, ◌||◌, List, [], ◌∷◌, ℕ, ◌*◌, ◌^◌, ◌<◌, length, take, ltb, if◌then◌else◌}
use Rattle.format.specs.Basics.{given, ◌>>=◌, given_or, All}
use Rattle.format.specs.ObjectFile.{ObjectFile}
use Rattle.format.specs.Words.{object_of}
use Rattle.format.specs.Fair.{Fair}
use Rattle.format.specs.Binary.{binary_file}
use Rattle.format.specs.TextWriter.{text_file}
use Rattle.format.specs.Calls.{Filled, WritesBinary, WritesText, ReadsBinary, ReadsText}

-- "A binary trip is binary write and binary read; a text trip is text write and text read."
pub data Form : Type 0 where
  binary : Form
  text : Form

-- what a trip is lent: "the write is lent a byte buffer, the read a word buffer, each of any length, also 0, and with any contents"
pub record Trip : Type 0 where
  pub form : Form
  pub bytes : List ℕ
  pub words : List ℕ

-- the promises of the calls of a form, as their contracts cite them
abbrev pub Writes : Form → List ℕ → List ℕ → Filled → Type 0
Writes binary = WritesBinary
Writes text = WritesText

abbrev pub Reads : Form → List ℕ → List ℕ → Filled → Type 0  -- of a read
Reads binary = ReadsBinary
Reads text = ReadsText

-- "exactly the length filled"
abbrev pub filled_part : Filled → List ℕ
filled_part r = take r.len r.buffer

-- A trip from the words ws that stand: its number, and the words that stand after it. "A trip is a write of the holding that stands and, if
-- that gives 0, a read in the same form of exactly the length filled. .. If both give 0, the words filled are the holding that then stands.
-- If either refuses, its number is the trip's, and the holding stands as before."
pub data TripMade (t : Trip) (ws : List ℕ) : ℕ → List ℕ → Type 0 where
  write_refused : (w : Filled) → Writes t.form ws t.bytes w → ¬ (w.number ≡ 0) → TripMade t ws w.number ws
  read-refused :
      (w r : Filled) → Writes t.form ws t.bytes w → w.number ≡ 0 → Reads t.form (filled_part w) t.words r → ¬ (r.number ≡ 0)
      → TripMade t ws r.number ws
  completed :
      (w r : Filled) → Writes t.form ws t.bytes w → w.number ≡ 0 → Reads t.form (filled_part w) t.words r → r.number ≡ 0
      → TripMade t ws 0 (filled_part r)

-- a trip, the words that stood before it, its number, and the words that stand after it
pub record LogEntry : Type 0 where
  pub trip : Trip
  pub before : List ℕ
  pub number : ℕ
  pub after : List ℕ

abbrev pub log_entry : Trip → List ℕ → ℕ → List ℕ → LogEntry  -- its four values
log_entry t ws n next = record { trip = t; before = ws; number = n; after = next }

-- a list of trips from the words ws, each from what stands after the one before it: its log, and the words that stand last
pub data TripsMade : List ℕ → List Trip → List LogEntry → List ℕ → Type 0 where
  done : {ws : List ℕ} → TripsMade ws [] [] ws
  onward :
      {ws next last : List ℕ} {n : ℕ} {t : Trip} {ts : List Trip} {es : List LogEntry}
      → TripMade t ws n next → TripsMade next ts es last → TripsMade ws (t ∷ ts) (log_entry t ws n next ∷ es) last

-- "The trip's file is what demand 2's definitions give in its form .., its length is the same in every record order": in the object's own
abbrev pub file_in : Form → ObjectFile → List ℕ
file_in binary h = binary_file h
file_in text h = text_file h

-- nothing of words that are not well formed, which never stand here
unfoldable pub file_of : Form → List ℕ → List ℕ
file_of f ws = given_or (object_of ws >>= λ h. given (file_in f h)) []

-- the byte buffer is shorter than the file, or the word buffer shorter than the object
unfoldable pub is_short : Trip → List ℕ → Bool
is_short t ws = ltb (length t.bytes) (length (file_of t.form ws)) || ltb (length t.words) (length ws)

-- refused exactly when a buffer is short, the number then 3; refused or not, the words stand as they stood
pub record AsExpected (e : LogEntry) : Type 0 where
  pub number : e.number ≡ (if is_short e.trip e.before then 3 else 0)
  pub stood : e.after ≡ e.before

-- "an object is a slice of 32-bit words": a slice's 4-byte words take less than 2^63 bytes
abbrev pub IsSlice : List ℕ → Type 0
IsSlice ws = length ws * 4 < 2 ^ 63

-- "A fair holding then comes back from every mixed list of trips as itself, with no odd or even" (P10): by the log of a list from the words
-- ws and the words that stand last, each trip is as expected, and the first words stand
abbrev pub ComesBack : List ℕ → List LogEntry → List ℕ → Type 0
ComesBack ws es last = All AsExpected es × (last ≡ ws)

-- DEMAND 3: for every fair object, every list of trips from it, every length and content of the buffers, and every outcome that the
-- promises of the four calls allow, it comes back, word for word
abbrev pub Demand3 : Type 0
Demand3 =
    (ws : List ℕ) → IsSlice ws → Fair ws → (ts : List Trip) (es : List LogEntry) (last : List ℕ) → TripsMade ws ts es last
    → ComesBack ws es last

-- demand 3 is about something: every list of trips from any words has an outcome that the promises allow
abbrev pub OutcomesExist : Type 0
OutcomesExist = (ws : List ℕ) (ts : List Trip) → (es : List LogEntry) × (last : List ℕ) × TripsMade ws ts es last

unfoldable pub open-Trips : Unit {0}
unfolding file_of is_short
open-Trips = tt
