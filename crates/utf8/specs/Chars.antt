-- What the code's answers on characters say, in the definitions' terms. Assumes nothing.
use Rattle.std.proofs.Math.Option.{Option, none, some}
use Rattle.std.specs.Prelude as std
use Rattle.std.specs.Prelude.{ℕ, Some, None, if◌then◌else◌}
use Rattle.format.specs.Utf8.{is_between}
use Rattle.utf8.specs.declared.Char.{Char}

-- as `char_at` has it: the scalar value, and how many bytes follow the first
abbrev pub char_of : std.Option Char → Option (ℕ × ℕ)
char_of (Some c) = some (c.value, c.more)
char_of None = none

-- as `follow` has it
abbrev pub bits_of : std.Option ℕ → Option ℕ
bits_of (Some v) = some v
bits_of None = none

-- 1 for a byte that begins a character, 0 for one 10xxxxxx
unfoldable pub begins : ℕ → ℕ
begins b = if is_between 0x80 0xBF b then 0 else 1
