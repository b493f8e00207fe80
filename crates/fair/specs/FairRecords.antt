-- Whether an object is fair, record by record. Assumes nothing.
use Rattle.std.specs.Prelude.{◌≡◌, Bool, true, false, ◌&&◌, List, [], ◌∷◌, ℕ, ◌+◌, length, leb, if◌then◌else◌, Some, None, Result, Ok, Err}
use Rattle.std.specs.Prelude as std
use Rattle.std.proofs.Math.Option.{Option, none, some}
use Rattle.format.specs.Basics.{given, every}
use Rattle.format.specs.ObjectFile.{LineBlock, ObjectFile, line_end, strictly_rise, names_of}
use Rattle.format.specs.Records.{Record, block, label, line_block, source, relocation}
use Rattle.format.specs.Words.{object_of}
use Rattle.format.specs.Fair.{is_fair_name, is_fair_by}
use Rattle.format.specs.Calls as calls
use Rattle.units.specs.Refusal.{number_of}
use Rattle.units.specs.declared.refusal.Refusal.{Refusal}

-- the number, and whether it is fair: on a refusal it isn't
abbrev pub answer_of : Result Bool Refusal → calls.FairAnswer
answer_of (Ok fair) = record { number = 0; fair = fair }
answer_of (Err r) = record { number = number_of r; fair = false }

-- a line block that begins at line `least` or later, in a source whose last line has the number `last`: "1 to 65,535 strictly rising
-- addresses", "at most the last source line's number"
unfoldable pub fair_lines : ℕ → ℕ → LineBlock → Bool
fair_lines last least l =
    leb least l.first && leb 1 (length l.addresses) && leb (length l.addresses) 65535 && strictly_rise l.addresses
    && leb (line_end l) last

-- the line blocks one after the other: "its first line + count is below the next block's first line"
unfoldable pub fair_lines_from : ℕ → ℕ → List LineBlock → Bool
fair_lines_from last least [] = true
fair_lines_from last least (l ∷ ls) = fair_lines last least l && fair_lines_from last (line_end l + 1) ls

-- names and line blocks of an object
unfoldable pub fair_parts : ℕ → ℕ → ObjectFile → Bool
fair_parts last least h = every is_fair_name (names_of h) && fair_lines_from last least h.line_blocks

-- one record: where the next line block may begin at the earliest, or none if it is not fair
unfoldable pub fair_step : ℕ → ℕ → Record → Option ℕ
fair_step last least (block b) = some least
fair_step last least (label l) = if is_fair_name l.name then some least else none
fair_step last least (line_block l) = if fair_lines last least l then some (line_end l + 1) else none
fair_step last least (source s) = some least
fair_step last least (relocation r) = if is_fair_name r.name then some least else none

abbrev pub step_of : std.Option ℕ → Option ℕ
step_of (Some least) = some least
step_of None = none

-- of the words of an object, if they are well formed: names and line blocks, in a source whose last line has the number `last`
abbrev pub FairIn : List ℕ → ℕ → Bool → Type 0
FairIn ws last r = (h : ObjectFile) → object_of ws ≡ given h → r ≡ fair_parts last 0 h

-- the same without a source
abbrev pub BlocksIn : List ℕ → Bool → Type 0
BlocksIn ws r = (h : ObjectFile) → object_of ws ≡ given h → h.source ≡ none → r ≡ is_fair_by none h
