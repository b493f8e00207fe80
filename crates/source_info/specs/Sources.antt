-- What the call on an object's source hands back, and where the source stands. Assumes nothing.
use Rattle.std.specs.Prelude.{◌≡◌, List, ℕ, ◌*◌, ◌≤◌, length, Option, Some, None, Result, Ok, Err}
use Rattle.std.proofs.Math.Option.{none, some}
use Rattle.format.specs.Basics.{Outcome, refused, given, ◌>>=◌}
use Rattle.format.specs.ObjectFile.{ObjectFile}
use Rattle.format.specs.Words.{object_of}
use Rattle.format.specs.Calls.{Value, source_in}
use Rattle.units.specs.Refusal.{number_of}
use Rattle.units.specs.declared.refusal.Refusal.{Refusal}
use Rattle.object.specs.Bodies.{body_at, text_at, Text}
use Rattle.object.specs.Texts.{text_bytes}
use Rattle.source_info.specs.declared.Source.{Source}

-- document 01's number and value of what is handed back: the value is 0 on a refusal
abbrev pub count_answer : Result ℕ Refusal → Value
count_answer (Ok lines) = record { number = 0; value = lines }
count_answer (Err r) = record { number = number_of r; value = 0 }

-- where the source of a well formed object stands
abbrev pub Sourced : List ℕ → Option ℕ → Type 0
Sourced ws (Some p) = (h : ObjectFile) → object_of ws ≡ given h → (h.source ≡ some (text_at ws p)) × Text (body_at ws p)
Sourced ws None = (h : ObjectFile) → object_of ws ≡ given h → h.source ≡ none

-- the source's bytes, or the number that refuses
abbrev pub source_bytes : List ℕ → Result Source Refusal → Outcome (List ℕ)
source_bytes ws (Ok s) = given (text_bytes ws s.at s.len)
source_bytes ws (Err r) = refused (number_of r)

abbrev pub Small : List ℕ → Result Source Refusal → Type 0
Small ws (Ok s) = s.len ≤ 3 * length ws
Small ws (Err r) = Unit {0}

abbrev pub SourceIs : List ℕ → Result Source Refusal → Type 0
SourceIs ws r = (source_bytes ws r ≡ (source_in ws >>= λ x. given x.1)) × Small ws r
