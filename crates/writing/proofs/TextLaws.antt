-- The words of a text, word by word. Assumes nothing.
use mathlib.Core.Path.{◌≡◌, refl, ◌∙◌}
use mathlib.Core.List.{List, [], ◌∷◌}
use Prim.Native.Nat.{ℕ, ◌+◌, ◌*◌, ◌<◌}
use native.Mathlib.Omega.{arith}
use lib.ListN.{length, drop, get_or, length-drop}
use lib.Seq.{drop-drop}
use Rattle.format.specs.Digits.{value_of}
use Rattle.format.specs.Words.{text_words}

-- the first word, 0 where there is none
abbrev pub first_word : List ℕ → ℕ
first_word s = get_or (text_words s) 0 0

-- it, by how many bytes there are
pub word_none : (s : List ℕ) → length s ≡ 0 → 0 ≡ first_word s
unfolding text_words
word_none [] e = refl
word_none (a ∷ s) e = absurd (omega arith)

pub word-one : (s : List ℕ) → length s ≡ 1 → 0xE100_0000 + get_or s 0 0 ≡ first_word s
unfolding text_words value_of
word-one [] e = absurd (omega arith)
word-one (a ∷ []) e = omega arith
word-one (a ∷ b ∷ s) e = absurd (omega arith)

pub word_two : (s : List ℕ) → length s ≡ 2 → 0xE200_0000 + get_or s 0 0 + 256 * get_or s 1 0 ≡ first_word s
unfolding text_words value_of
word_two [] e = absurd (omega arith)
word_two (a ∷ []) e = absurd (omega arith)
word_two (a ∷ b ∷ []) e = omega arith
word_two (a ∷ b ∷ c ∷ s) e = absurd (omega arith)

pub word-three : (s : List ℕ) → 2 < length s → 0xE300_0000 + get_or s 0 0 + 256 * get_or s 1 0 + 65536 * get_or s 2 0 ≡ first_word s
unfolding text_words value_of
word-three [] e = absurd (omega arith)
word-three (a ∷ []) e = absurd (omega arith)
word-three (a ∷ b ∷ []) e = absurd (omega arith)
word-three (a ∷ b ∷ c ∷ s) e = omega arith

-- the first word, and those after it
words-cons : (s : List ℕ) → 0 < length s → text_words s ≡ first_word s ∷ text_words (drop 3 s)
unfolding text_words
words-cons [] h = absurd (omega arith)
words-cons (a ∷ []) h = refl
words-cons (a ∷ b ∷ []) h = refl
words-cons (a ∷ b ∷ c ∷ s) h = refl

pub words_at_lem : (s : List ℕ) (i : ℕ) → i < length s → text_words (drop i s) ≡ first_word (drop i s) ∷ text_words (drop (i + 3) s)
words_at_lem s i h = words-cons (drop i s) (rw length-drop (omega arith)) ∙ simp drop-drop
