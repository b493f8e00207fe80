-- A memory word that may not be known. Assumes nothing.
use Rattle.std.specs.Prelude as prelude
use Rattle.std.specs.Prelude.{Some, None, Bool, true, false, ℕ}
use Rattle.std.proofs.Math.Option.{Option, none, some}

abbrev pub known_word : Bool → ℕ → Option ℕ
known_word true v = some v
known_word false v = none

-- what the code's answer says
abbrev pub word_of : prelude.Option ℕ → Option ℕ
word_of (Some v) = some v
word_of None = none
