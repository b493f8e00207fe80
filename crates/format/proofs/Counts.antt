-- How many words the parts of an object have, and how many memory words and addresses bytes give. Assumes nothing.
use mathlib.Core.Path.{◌≡◌, refl}
use mathlib.Core.List.{List, [], ◌∷◌, map}
use mathlib.Core.Option.{some}
use Prim.Native.Nat.{ℕ, ◌+◌, ◌/◌}
use native.Mathlib.Omega.{arith}
use lib.ListN.{length, length-append, length-map}
use Rattle.format.specs.Digits.{digits_of}
use Rattle.format.specs.ObjectFile.{Block, Label, LineBlock, Relocation}
use Rattle.format.specs.Records.{block, label, line_block, source, relocation}
use Rattle.format.specs.Words.{memory_word, number_words, text_words, record_words}
use Rattle.format.specs.Binary.{memories_from, addresses_from}

pub memories_length : (bs : List ℕ) → length (memories_from bs) ≡ length bs / 3
unfolding memories_from
memories_length [] = refl
memories_length (f ∷ []) = refl
memories_length (f ∷ a ∷ []) = refl
memories_length (f ∷ a ∷ b ∷ bs) = omega (arith, memories_length bs)

pub addresses-length : (bs : List ℕ) → length (addresses_from bs) ≡ length bs / 2
unfolding addresses_from
addresses-length [] = refl
addresses-length (a ∷ []) = refl
addresses-length (a ∷ b ∷ bs) = omega (arith, addresses-length bs)

pub text-length : (bs : List ℕ) → length (text_words bs) ≡ (length bs + 2) / 3
unfolding text_words
text-length [] = refl
text-length (a ∷ []) = refl
text-length (a ∷ b ∷ []) = refl
text-length (a ∷ b ∷ c ∷ bs) = omega (arith, text-length bs)

pub number-length : (n : ℕ) → length (number_words n) ≡ 3
unfolding number_words digits_of
number-length n = refl

-- RECORDS
pub block-length : (b : Block) → length (record_words (block b)) ≡ 1 + length b.words
unfolding record_words
block-length b = omega (arith, length-map b.words memory_word)

pub label-length : (l : Label) → length (record_words (label l)) ≡ 4 + (length l.name + 2) / 3
unfolding record_words
label-length l = omega (arith, number-length l.start, length-append (number_words l.start) (text_words l.name), text-length l.name)

pub line-length : (l : LineBlock) → length (record_words (line_block l)) ≡ 4 + length l.addresses
unfolding record_words
line-length l =
    let ws : List ℕ = map (λ a. memory_word (some a)) l.addresses in
    omega (arith, number-length l.first, length-append (number_words l.first) ws, length-map l.addresses (λ a. memory_word (some a)))

pub source-length : (s : List ℕ) → length (record_words (source s)) ≡ 1 + (length s + 2) / 3
unfolding record_words
source-length s = omega (arith, text-length s)

pub relocation-length : (r : Relocation) → length (record_words (relocation r)) ≡ 1 + (length r.name + 2) / 3
unfolding record_words
relocation-length r = omega (arith, text-length r.name)
