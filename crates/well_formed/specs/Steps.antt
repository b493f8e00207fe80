-- A step from a record to the next. Assumes nothing.
use Rattle.std.specs.Prelude.{◌≡◌, Bool, true, false, List, [], ◌∷◌, ℕ, ◌+◌, ◌/◌, ◌^◌, ◌<◌, length, get_or, Option, Some, None}
use Rattle.std.specs.Option.{is_some}
use Rattle.format.specs.Basics.{given}
use Rattle.format.specs.Records.{Record}
use Rattle.format.specs.Words.{record_from}
use Rattle.object.specs.Bodies.{allows}
use Rattle.well_formed.specs.Run.{Past, fits, after}
use Rattle.object.specs.Bodies.{body_at, text_at, Text}
use Rattle.format.specs.Sorted.{order, is_less}
use Rattle.well_formed.specs.declared.Key.{Key}
use Rattle.well_formed.specs.declared.Key.TheVariants as key
use Rattle.well_formed.specs.declared.Lines.{Lines}
use Rattle.well_formed.specs.declared.Seen.{Seen}

-- how many parts come before a key's
abbrev pub part_of : Key → ℕ
part_of key.Start = 0
part_of (key.Block v) = 1
part_of (key.Label n) = 2
part_of (key.LineBlock v) = 3
part_of key.Source = 4
part_of (key.Relocation v) = 5

abbrev pub key_in : List ℕ → Key → List ℕ
key_in ws key.Start = []
key_in ws (key.Block v) = 0 ∷ v ∷ []
key_in ws (key.Label n) = 1 ∷ text_at ws n
key_in ws (key.LineBlock v) = 2 ∷ v ∷ []
key_in ws key.Source = 3 ∷ []
key_in ws (key.Relocation v) = 4 ∷ v ∷ []

-- where the last line block ends
abbrev pub end_of : Option Lines → ℕ
end_of (Some l) = l.first + l.count
end_of None = 0

unfoldable pub past_in : List ℕ → Seen → Past
past_in ws s = record { key = key_in ws s.key; end = end_of s.lines; lined = is_some s.lines; sourced = s.sourced }

-- a label's key is where a text stands
abbrev pub Known : List ℕ → Key → Type 0
Known ws key.Start = Unit {0}
Known ws (key.Block v) = Unit {0}
Known ws (key.Label n) = Text (body_at ws n)
Known ws (key.LineBlock v) = Unit {0}
Known ws key.Source = Unit {0}
Known ws (key.Relocation v) = Unit {0}

-- the same, but for the key
abbrev pub moved : Seen → Key → Seen
moved s k = record { key = k; lines = s.lines; sourced = s.sourced }

abbrev pub rising : List ℕ → Seen → Key → Bool
rising ws s k = is_less (order (key_in ws s.key) (key_in ws k))

abbrev pub Moved : List ℕ → Seen → Key → Option Seen → Type 0
Moved ws s k (Some t) = (rising ws s k ≡ true) × (t ≡ moved s k)
Moved ws s k None = rising ws s k ≡ false

-- a record of this kind begins at a place
abbrev pub At : ℕ → List ℕ → ℕ → Seen → Type 0
At kind ws at s = (at < length ws) × (get_or ws at 0 / 2 ^ 29 ≡ kind) × Known ws s.key

abbrev pub group_at : List ℕ → ℕ → ℕ × List ℕ
group_at ws at = (get_or ws at 0, body_at ws (at + 1))

pub record Advanced (ws : List ℕ) (at : ℕ) (s : Seen) (n : ℕ) (t : Seen) : Type 0 where
  pub read : Record
  pub reading : record_from (group_at ws at) ≡ given read
  pub fitting : fits (past_in ws s) read ≡ true
  pub past : past_in ws t ≡ after (past_in ws s) read
  pub known : Known ws t.key
  pub place : n ≡ at + 1 + length (body_at ws (at + 1))

abbrev pub Stepped : List ℕ → ℕ → Seen → Option (ℕ × Seen) → Type 0
Stepped ws at s (Some p) = Advanced ws at s p.0 p.1
Stepped ws at s None = allows (record_from (group_at ws at)) (fits (past_in ws s)) ≡ false
