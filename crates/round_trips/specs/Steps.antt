-- Lists of trips through the public calls, and demand 3 over them. Assumes nothing.
use Rattle.std.specs.Prelude.{List, [], ◌∷◌, ℕ}
use Rattle.format.specs.Fair.{Fair}
use Rattle.format.specs.Trips.{Form, Trip, LogEntry, log_entry, ComesBack}
use Rattle.units.specs.Refusal.{number_in}
use Rattle.object_format.specs.TripSteps.{trip_of, Made, standing, Step}

-- a list of such steps from ws, each from what stands after the one before it: the trips, their log, and the words that stand last
pub data StepsMade : List ℕ → List Trip → List LogEntry → List ℕ → Type 0 where
  none_left : {ws : List ℕ} → StepsMade ws [] [] ws
  one_more :
      {f : Form} {ws bytes words after last : List ℕ} {r : Made} {ts : List Trip} {es : List LogEntry}
      → Step f ws bytes words r after → StepsMade (standing r after ws) ts es last
      → StepsMade ws (trip_of f bytes words ∷ ts) (log_entry (trip_of f bytes words) ws (number_in r) (standing r after ws) ∷ es) last

-- DEMAND 3 OVER THE CALLS: Demand3 of every list of trips made through the calls, with no hypothesis but that the first object is fair
abbrev pub CallsDemand3 : Type 0
CallsDemand3 =
    (ws : List ℕ) → Fair ws → (ts : List Trip) (es : List LogEntry) (last : List ℕ) → StepsMade ws ts es last → ComesBack ws es last
