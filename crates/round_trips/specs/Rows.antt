-- The program's lists of trips: of each its form, and how many bytes and words it is lent. Assumes nothing.
use Rattle.std.specs.Prelude.{◌≡◌, List, map, ℕ, min, length}
use Rattle.round_trips.specs.declared.Form as declared
use Rattle.round_trips.specs.declared.Form.TheVariants as variants
use Rattle.round_trips.specs.declared.Row.{Row}
use Rattle.format.specs.Trips.{Form, binary, text, Trip, LogEntry}
use Rattle.round_trips.specs.Steps.{StepsMade}

-- a form of the program's
abbrev pub form_of : declared.Form → Form
form_of variants.Binary = binary
form_of variants.Text = text

-- the form of a trip, and how many bytes and words it is lent
pub record TripRow : Type 0 where
  pub form : Form
  pub bytes : ℕ
  pub words : ℕ

abbrev pub row_of : Trip → TripRow  -- of a trip
row_of t = record { form = t.form; bytes = length t.bytes; words = length t.words }

-- a row of a list; the program's own buffers have 1,024 bytes and 64 words
abbrev pub row : Row → TripRow
row r = record { form = form_of r.form; bytes = min r.bytes 1024; words = min r.words 64 }

-- trips that were lent what these rows say, each made from what stands after the one before it, from ws, and what stands last
pub record Ran (rs : List TripRow) (ws last : List ℕ) : Type 0 where
  pub trips : List Trip
  pub log : List LogEntry
  pub made : StepsMade ws trips log last
  pub as_listed : map row_of trips ≡ rs
