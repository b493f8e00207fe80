-- Where the words of a record end. Assumes nothing.
use Rattle.std.specs.Prelude.{◌≡◌, ℕ, ◌+◌, ◌/◌, ◌%◌, ◌<◌, Bool, true, false, List, length, Option, Some, None}
use Rattle.object.specs.Bodies.{body_at}

-- where the words of a record end that are as they should be
abbrev pub Walked : (List ℕ → Bool) → List ℕ → ℕ → Option ℕ → Type 0
Walked good ws at (Some n) = (good (body_at ws at) ≡ true) × (n ≡ at + length (body_at ws at))
Walked good ws at None = good (body_at ws at) ≡ false

-- a word that carries three bytes of text, all ASCII
abbrev pub AsciiWord : ℕ → Type 0
AsciiWord w = (w / 0x100_0000 ≡ 0xE3) × (w % 256 < 0x80) × (w / 256 % 256 < 0x80) × (w / 65536 % 256 < 0x80)
