-- Single words of a binary file's records. Assumes nothing.
use Rattle.std.specs.Prelude.{List, [], ◌∷◌, ℕ, ◌+◌, ◌*◌, ◌^◌, eqb, if◌then◌else◌}
use Rattle.std.proofs.Math.Option.{none, some}
use Rattle.format.specs.Digits.{value_of}
use Rattle.format.specs.Words.{word, flag_bit, memory_word}
use Rattle.binary_words.specs.RecordAt.{label_at, relocation_at}

-- the memory word of the three bytes f, a and b: "a flag other than FF means uninitialised"
abbrev pub memory_of_bytes : ℕ → ℕ → ℕ → ℕ
memory_of_bytes f a b = memory_word (if eqb f 0xFF then some (value_of 8 (a ∷ b ∷ [])) else none)

-- "7 text: bits 25..24 count 1 to 3, first byte lowest": the word of the three bytes a, b and c
abbrev pub text_word_of : ℕ → ℕ → ℕ → ℕ
text_word_of a b c = 0xE300_0000 + a + 256 * b + 65536 * c

-- "2 label: bits 15..0 address, bit 16 external."
abbrev pub label_head : List ℕ → ℕ → ℕ
label_head s p = word 2 ((label_at s p).address + 2 ^ 16 * flag_bit (label_at s p).external)

-- "5 relocation: bits 15..0 address."
abbrev pub relocation_head : List ℕ → ℕ → ℕ
relocation_head s p = word 5 (relocation_at s p).address
