-- Stretches of a text: bytes of one kind, and those without a newline. Assumes nothing.
use Rattle.std.specs.Prelude.{◌≡◌, ◌⊎◌, List, ℕ, ◌≤◌}
use Rattle.object.specs.Texts.{EachByte}

-- each byte is so from byte i up to byte j of a text of n bytes, or nothing is passed
abbrev pub Stretch : (ℕ → Type 0) → List ℕ → ℕ → ℕ → ℕ → ℕ → Type 0
Stretch P ws at n i j = (i ≤ j) × ((j ≤ i) ⊎ (j ≤ n)) × EachByte P ws at i j

abbrev pub Other : ℕ → Type 0
Other b = b ≡ 10 → ⊥

abbrev pub Clear : List ℕ → ℕ → ℕ → ℕ → ℕ → Type 0
Clear ws at n i j = Stretch Other ws at n i j
