-- What `bin2text` prints, by way of an object in 16,384 words. Assumes nothing.
use Rattle.std.specs.Prelude.{List, ℕ, length}
use Rattle.format.specs.Basics.{Outcome, ◌>>=◌}
use Rattle.format.specs.Calls.{read_binary, write_text, bin2text}
use Rattle.writing.specs.Written.{Put}
use Rattle.printing.specs.Printed.{words_read}

-- binary to text
abbrev pub binary_to_text : List ℕ → Outcome (List ℕ)
binary_to_text input = words_read read_binary input >>= write_text

-- the promise of `bin2text`: what is printed stands at the front of the buffer
abbrev pub PrintsText : List ℕ → List ℕ → ℕ → List ℕ → Type 0
PrintsText input buffer r after = Put (bin2text 65536 16384 (length buffer) input) buffer r after
