-- A trip through the public calls as a step of demand 3 (crate `format`, module Trips). Assumes nothing.
use Rattle.std.specs.Prelude.{◌≡◌, List, ℕ, ◌≤◌, length, take, Result, Ok, Err}
use Rattle.format.specs.Trips.{Form, Trip, TripMade, IsSlice}
use Rattle.units.specs.declared.refusal.Refusal.{Refusal}
use Rattle.units.specs.Refusal.{number_in}

-- a trip of the form f that is lent these bytes and these words
abbrev pub trip_of : Form → List ℕ → List ℕ → Trip
trip_of f bytes words = record { form = f; bytes = bytes; words = words }

-- what a trip hands back: how many words were filled, or the refusal
abbrev pub Made : Type 0
Made = Result ℕ Refusal

-- how many words were filled: none where it was refused
abbrev pub len_in : Made → ℕ
len_in (Ok len) = len
len_in (Err r) = 0

-- "If both give 0, the words filled are the holding that then stands. If either refuses, .. the holding stands as before.": by what a trip
-- from ws hands back, and the word buffer after it
abbrev pub standing : Made → List ℕ → List ℕ → List ℕ
standing (Ok len) after ws = take len after
standing (Err r) after ws = ws

-- A trip of the form f from ws, "a slice of 32-bit words", that was lent these bytes and these words, handed back r, and left `after` in
-- the word buffer: the step of demand 3's lists.
pub record Step (f : Form) (ws bytes words : List ℕ) (r : Made) (after : List ℕ) : Type 0 where
  pub is_slice : IsSlice ws
  pub made : TripMade (trip_of f bytes words) ws (number_in r) (standing r after ws)

-- so many are there, as a caller that takes `&words[..n]` has to know
abbrev pub Counted : ℕ → List ℕ → Type 0
Counted n xs = (n ≤ length xs) × (n ≡ length (take n xs))
