-- The bytes of a text by their places in its words, for every slice of words: of words that are no text these say what stands in their
-- bits. That they are a text's bytes is said in proofs/ByteLaws. Assumes nothing.
use Rattle.std.specs.Prelude.{◌&&◌, List, [], ◌∷◌, ℕ, zero, suc, ◌+◌, ◌-◌, ◌*◌, ◌/◌, ◌%◌, ◌^◌, ◌≤◌, ◌<◌, length, get_or, leb, ltb, if◌then◌else◌}
use Rattle.format.specs.Digits.{digits_of}

-- how many bytes: three for each word from `at` up to `end` but the last, which has its count in bits 25..24
unfoldable pub text_len : List ℕ → ℕ → ℕ → ℕ
text_len ws at end = if ltb at end && leb end (length ws) then (end - 1 - at) * 3 + get_or ws (end - 1) 0 / 2 ^ 24 % 4 else 0

-- byte i: in word i / 3, first byte lowest
unfoldable pub text_byte : List ℕ → ℕ → ℕ → ℕ
text_byte ws at i = get_or (digits_of 8 3 (get_or ws (at + i / 3) 0)) (i % 3) 0

-- n bytes, from byte i on
unfoldable pub bytes_from : List ℕ → ℕ → ℕ → ℕ → List ℕ
bytes_from ws at i zero = []
bytes_from ws at i (suc n) = text_byte ws at i ∷ bytes_from ws at (suc i) n

-- the first n bytes
abbrev pub text_bytes : List ℕ → ℕ → ℕ → List ℕ
text_bytes ws at n = bytes_from ws at 0 n

-- how many whole words they have, of those that are there
unfoldable pub whole_words : List ℕ → ℕ → ℕ → ℕ
whole_words ws at n = if ltb (length ws - at) (n / 3) then length ws - at else n / 3

-- those from byte i up to byte j
abbrev pub span_bytes : List ℕ → ℕ → ℕ → ℕ → List ℕ
span_bytes ws at i j = bytes_from ws at i (j - i)

-- each of them is so
abbrev pub EachByte : (ℕ → Type 0) → List ℕ → ℕ → ℕ → ℕ → Type 0
EachByte P ws at i j = (k : ℕ) → i ≤ k → k < j → P (text_byte ws at k)

-- each of a word's three bytes is so
pub record EachIn (P : ℕ → Type 0) (w : ℕ) : Type 0 where
  pub first : P (w % 256)
  pub second : P (w / 256 % 256)
  pub third : P (w / 65536 % 256)
