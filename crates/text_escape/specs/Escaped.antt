-- `escape_default`, character by character. That the escapes of a text are those of its scalar values is said in proofs/EscapeLaws.
-- Assumes nothing.
use Rattle.std.specs.Prelude as prelude
use Rattle.std.specs.Prelude.{Some, None, ◌≢◌, ◌≡◌, Bool, true, List, [], ◌∷◌, ◌++◌, ℕ, zero, suc, ◌<◌, drop, eqb, if◌then◌else◌}
use Rattle.std.proofs.Math.Option.{Option, none, some}
use Rattle.format.specs.Basics.{ascii}
use Rattle.format.specs.Utf8.{char_at}
use Rattle.format.specs.TextWriter.{numeral, escape_char}
use Rattle.object.specs.Texts.{text_bytes}

-- "\t \r \n \' \" \\ so": the letter after the backslash, 0 of other characters
unfoldable pub letter_of : ℕ → ℕ
letter_of c =
    if eqb c 0x09 then 0x74
    else if eqb c 0x0D then 0x72
    else if eqb c 0x0A then 0x6E
    else if eqb c 0x27 then 0x27
    else if eqb c 0x22 then 0x22
    else if eqb c 0x5C then 0x5C
    else 0

-- what the code's answer says of a letter: none is 0
abbrev pub Letter : ℕ → prelude.Option ℕ → Type 0
Letter n (Some l) = (l ≡ n) × (n ≢ 0)
Letter n None = 0 ≡ n

-- "`\u{..}`, lower-case hex, no leading zeros", of any 64-bit number
unfoldable pub code_text : ℕ → List ℕ
code_text c = ascii "\\u{" ++ numeral 19 16 c [] ++ ascii "}"

-- a character, and those after it; none where bytes are no UTF-8
abbrev pub escape_next : Option (ℕ × ℕ) → (ℕ → List ℕ) → List ℕ
escape_next none rest = []
escape_next (some c) rest = escape_char c.0 ++ rest c.1

-- the escapes of the characters that bytes begin with; the number counts the bytes still to be passed over of the current character
unfoldable pub escape_from : ℕ → List ℕ → List ℕ
escape_from k [] = []
escape_from zero (b ∷ bs) = escape_next (char_at (b ∷ bs)) (λ n. escape_from n bs)
escape_from (suc k) (b ∷ bs) = escape_from k bs

-- of the bytes from start up to end of the text at a place
abbrev pub escaped_in : List ℕ → ℕ → ℕ → ℕ → List ℕ
escaped_in ws at start end = escape_from 0 (drop start (text_bytes ws at end))

-- a byte is a character that stands for itself
abbrev pub Itself : ℕ → Type 0
Itself b = (b < 0x80) × (escape_char b ≡ b ∷ [])

-- what a test says of a byte
abbrev pub Plain : ℕ → Bool → Type 0
Plain b t = t ≡ true → Itself b
