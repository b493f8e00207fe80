-- What a file gives in a form, as the contract of a length cites it. Assumes nothing.
use Rattle.std.specs.Prelude.{List, ℕ}
use Rattle.format.specs.Basics.{Outcome}
use Rattle.format.specs.Calls.{read_binary, read_text}
use Rattle.format.specs.Trips.{Form, binary, text}

-- the words of a file in a form, or its refusal: 10 to 15, or 20 to 31
abbrev pub given_by : Form → List ℕ → Outcome (List ℕ)
given_by binary = read_binary
given_by text = read_text
