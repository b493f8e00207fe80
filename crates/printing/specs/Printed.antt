-- What the programs print. Their buffers have 65,536 bytes of input and 16,384 words; the length of the output's is a parameter.
-- Assumes nothing.
use Rattle.std.specs.Prelude.{◌≡◌, List, ℕ, ◌≤◌, length, take, Result, Ok, Err}
use Rattle.format.specs.Basics.{Outcome, given, ◌>>=◌}
use Rattle.format.specs.TextWriter.{text_line, decimal}
use Rattle.format.specs.Calls.{fitting}
use Rattle.units.specs.declared.refusal.Refusal.{Refusal}
use Rattle.units.specs.Refusal.{number_of}
use Rattle.writing.specs.Written.{Put}

-- "3 if its buffers are short": the object that is read of an input
unfoldable pub words_read : (List ℕ → Outcome (List ℕ)) → List ℕ → Outcome (List ℕ)
words_read read input = fitting 65536 (given input) >>= λ bs. fitting 16384 (read bs)

-- "for a refusal its number and a newline"
abbrev pub number_line : Refusal → List ℕ
number_line r = text_line (decimal (number_of r))

-- after a call that handed this back and left this buffer: the length filled, and the buffer as it is, or the number's line put into it
abbrev pub PrintsFilled : Result ℕ Refusal → List ℕ → ℕ → List ℕ → Type 0
PrintsFilled (Ok len) buffer r after = (r ≡ len) × (after ≡ buffer)
PrintsFilled (Err e) buffer r after = Put (number_line e) buffer r after

-- what is printed stands at the front of the buffer, as a program that writes `&out[..r]` has to know
abbrev pub Counts : ℕ → List ℕ → Type 0
Counts r after = (r ≤ length after) × (r ≡ length (take r after))
