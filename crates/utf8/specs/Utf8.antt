-- A reader of UTF-8 that takes a byte at a time, by the table of well-formed byte sequences (Unicode, table 3-7). That it takes exactly the
-- texts of the definition `is_utf8` is the law `run_is_utf8` of proofs/TableLaws. Assumes nothing.
use Rattle.std.specs.Prelude.{Bool, List, [], ◌∷◌, ℕ, ◌-◌, ◌≤◌, ◌<◌, get_or, ltb, eqb, if◌then◌else◌}
use Rattle.utf8.specs.declared.Utf8.{Utf8}

-- so many bytes of the character are still to come, the next of them between two bounds
abbrev pub more : ℕ → ℕ → ℕ → Utf8
more n l h = record { need = n; low = l; high = h }

-- between characters
abbrev pub whole : Utf8
whole = more 0 0 0

-- no UTF-8: no byte lies from 1 to 0
abbrev pub bad : Utf8
bad = more 1 1 0

-- between characters, whatever the bounds
abbrev pub is_whole : Utf8 → Bool
is_whole u = eqb u.need 0

-- the table's rows, by the first byte: how many bytes follow, and the bounds of the second
unfoldable pub first_byte : ℕ → Utf8
first_byte b =
    if ltb b 0x80 then whole
    else if ltb b 0xC2 then bad
    else if ltb b 0xE0 then more 1 0x80 0xBF
    else if eqb b 0xE0 then more 2 0xA0 0xBF
    else if eqb b 0xED then more 2 0x80 0x9F
    else if ltb b 0xF0 then more 2 0x80 0xBF
    else if eqb b 0xF0 then more 3 0x90 0xBF
    else if ltb b 0xF4 then more 3 0x80 0xBF
    else if eqb b 0xF4 then more 3 0x80 0x8F
    else bad

-- a byte more; the third and the fourth lie from x80 to xBF
unfoldable pub step : Utf8 → ℕ → Utf8
step u b =
    if is_whole u then first_byte b else if ltb b u.low then bad else if ltb u.high b then bad else more (u.need - 1) 0x80 0xBF

unfoldable pub run : Utf8 → List ℕ → Utf8
run u [] = u
run u (b ∷ bs) = run (step u b) bs

-- the bytes from a place to a place are ASCII
abbrev pub Ascii : List ℕ → ℕ → ℕ → Type 0
Ascii s a e = (j : ℕ) → a ≤ j → j < e → get_or s j 0 < 0x80
