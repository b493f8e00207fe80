-- What `encode_scalar` writes. Assumes nothing.
use Rattle.std.specs.Prelude.{List, [], ◌∷◌, ℕ, ◌+◌, ◌/◌, ◌%◌, ◌^◌, if◌then◌else◌}
use Rattle.format.specs.Utf8.{is_scalar, encode_scalar}

-- the four forms of Unicode's table 3-6
abbrev pub one : ℕ → List ℕ
one c = c ∷ []

abbrev pub two : ℕ → List ℕ
two c = (0xC0 + c / 2 ^ 6) ∷ (0x80 + c % 2 ^ 6) ∷ []

abbrev pub three : ℕ → List ℕ
three c = (0xE0 + c / 2 ^ 12) ∷ (0x80 + c / 2 ^ 6 % 2 ^ 6) ∷ (0x80 + c % 2 ^ 6) ∷ []

abbrev pub four : ℕ → List ℕ
four c = (0xF0 + c / 2 ^ 18) ∷ (0x80 + c / 2 ^ 12 % 2 ^ 6) ∷ (0x80 + c / 2 ^ 6 % 2 ^ 6) ∷ (0x80 + c % 2 ^ 6) ∷ []

-- the bytes of a scalar value; a number that is none has none
unfoldable pub scalar_bytes : ℕ → List ℕ
scalar_bytes c = if is_scalar c then encode_scalar c else []
