-- What is taken at a place of the input: document 01's number, every value and the next place, all 0 where bytes are missing ("All its
-- bytes there? 12"). What is handed back, and the answers that the contracts equate it with. Assumes nothing.
use Rattle.std.specs.Prelude.{List, ℕ, ◌+◌, ◌-◌, length, Option, Some, None, if◌then◌else◌}
use Rattle.format.specs.Binary.{number_at, has_bytes}
use Rattle.std.specs.Borrow.{Bor}
use Rattle.cursor.specs.declared.Cursor.{Cursor}

pub record TakenNumber : Type 0 where
  pub number : ℕ
  pub value : ℕ
  pub next : ℕ

-- the bytes are those from start to end
pub record TakenBytes : Type 0 where
  pub number : ℕ
  pub start : ℕ
  pub end : ℕ
  pub next : ℕ

abbrev pub a_number : ℕ → ℕ → TakenNumber
a_number value next = record { number = 0; value = value; next = next }

abbrev pub no_number : TakenNumber
no_number = record { number = 12; value = 0; next = 0 }

abbrev pub some_bytes : ℕ → ℕ → ℕ → TakenBytes
some_bytes start end next = record { number = 0; start = start; end = end; next = next }

abbrev pub no_bytes : TakenBytes
no_bytes = record { number = 12; start = 0; end = 0; next = 0 }

-- WHAT IS HANDED BACK

abbrev pub taken : Option (ℕ × Cursor) → TakenNumber
taken (Some p) = a_number p.0 p.1.at
taken None = no_number

-- the bytes taken end where the cursor moved to
abbrev pub taken_bytes : Option (Bor (List ℕ) × Cursor) → TakenBytes
taken_bytes (Some p) = some_bytes (p.1.at - length p.0.now) p.1.at p.1.at
taken_bytes None = no_bytes

-- THE ANSWERS. A place past the end has no bytes, not even none: where something is taken, all of it lies in the input.

-- the number in the n bytes at a place, low byte first
unfoldable pub take_number : ℕ → List ℕ → ℕ → TakenNumber
take_number n s at = if has_bytes (at + n) s then a_number (number_at at n s) (at + n) else no_number

-- the n bytes at a place
unfoldable pub take_bytes : ℕ → List ℕ → ℕ → TakenBytes
take_bytes n s at = if has_bytes (at + n) s then some_bytes at (at + n) (at + n) else no_bytes
