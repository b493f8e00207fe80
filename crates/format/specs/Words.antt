-- An object as 32-bit words, both ways (document 01, "The holding"): "an object is a slice of 32-bit words, the top 3 bits their kind,
-- unused bits 0". Words are well formed where the way back gives an object. Assumes nothing.
use Rattle.std.specs.Prelude.{Bool, true, false, ◌&&◌, ◌||◌, ℕ, ◌+◌, ◌-◌, ◌*◌, ◌/◌, ◌%◌, ◌^◌, length, leb, ltb, eqb, if◌then◌else◌}
use mathlib.Core.List.{List, [], ◌∷◌, ◌++◌, map, flat_map}
use Rattle.std.proofs.Math.Option.{Option, none, some}
use Rattle.format.specs.Basics.{Outcome, refused, given, ◌>>=◌, ask, is_empty}
use Rattle.format.specs.Digits.{value_of, digits_of}
use Rattle.format.specs.Tokens.{parts_at}
use Rattle.format.specs.Utf8.{is_between}
use Rattle.format.specs.Sorted.{rises}
use Rattle.format.specs.ObjectFile.{ObjectFile, consistent}
use Rattle.format.specs.Records.{Record, block, label, line_block, source, relocation, record_key, records_of, placed}

-- a word: its kind in the top 3 bits, and the other 29 bits
abbrev pub word : ℕ → ℕ → ℕ
word kind bits = kind * 2 ^ 29 + bits

abbrev pub flag_bit : Bool → ℕ  -- bit 16
flag_bit true = 1
flag_bit false = 0

-- "1 memory word: bit 16 set if initialised, bits 15..0 the value, else 0. After a kind 3 it is a line's address, bit 16 set."
unfoldable pub memory_word : Option ℕ → ℕ
memory_word none = word 1 0
memory_word (some v) = word 1 (2 ^ 16 + v)

-- "6 number, always three: bits 23..0, bits 47..24, bits 63..48 of a 64-bit value."
unfoldable pub number_words : ℕ → List ℕ
number_words n = map (λ d. word 6 d) (digits_of 24 3 n)

-- "7 text: bits 25..24 count 1 to 3, first byte lowest, the rest 0; all but the last carry 3. An empty text has no words."
unfoldable pub text_words : List ℕ → List ℕ
text_words [] = []
text_words (a ∷ []) = word 7 (value_of 8 (a ∷ 0 ∷ 0 ∷ 1 ∷ [])) ∷ []
text_words (a ∷ b ∷ []) = word 7 (value_of 8 (a ∷ b ∷ 0 ∷ 2 ∷ [])) ∷ []
text_words (a ∷ b ∷ c ∷ bs) = word 7 (value_of 8 (a ∷ b ∷ c ∷ 3 ∷ [])) ∷ text_words bs

unfoldable pub record_words : Record → List ℕ  -- the words of a record, by kind
-- "0 block: bits 15..0 address. Then its memory words"
record_words (block b) = word 0 b.address ∷ map memory_word b.words
-- "2 label: bits 15..0 address, bit 16 external. Then a number (source start) and a text (name)."
record_words (label l) = word 2 (l.address + 2 ^ 16 * flag_bit l.external) ∷ number_words l.start ++ text_words l.name
-- "3 line block: then a number (first line) and its addresses."
record_words (line_block l) = word 3 0 ∷ number_words l.first ++ map (λ a. memory_word (some a)) l.addresses
-- "4 source: then a text."
record_words (source s) = word 4 0 ∷ text_words s
-- "5 relocation: bits 15..0 address. Then a text (name)."
record_words (relocation r) = word 5 r.address ∷ text_words r.name

unfoldable pub words_of : ObjectFile → List ℕ  -- an object as words
words_of h = flat_map record_words (records_of h)

-- THE WAY BACK: each "no" is number 1, "Is it well formed?"

-- the bits of a word of this kind, below a limit: unused bits are 0
unfoldable pub bits_of : ℕ → ℕ → ℕ → Outcome ℕ
bits_of kind limit w = if eqb (w / 2 ^ 29) kind && ltb (w % 2 ^ 29) limit then given (w % 2 ^ 29) else refused 1

unfoldable pub memory_of : ℕ → Outcome (Option ℕ)  -- a memory word
memory_of w =
    bits_of 1 (2 ^ 17) w >>= λ x. if eqb x 0 then given none else if leb (2 ^ 16) x then given (some (x - 2 ^ 16)) else refused 1

unfoldable pub memories_of : List ℕ → Outcome (List (Option ℕ))  -- memory words
memories_of [] = given []
memories_of (w ∷ ws) = memory_of w >>= λ m. memories_of ws >>= λ ms. given (m ∷ ms)

unfoldable pub addresses_of : List ℕ → Outcome (List ℕ)  -- "a line's address, bit 16 set"
addresses_of [] = given []
addresses_of (w ∷ ws) =
    bits_of 1 (2 ^ 17) w >>= λ x. ask 1 (leb (2 ^ 16) x) >>= λ _. addresses_of ws >>= λ xs. given ((x - 2 ^ 16) ∷ xs)

-- a number, and the words after it
unfoldable pub number_from : List ℕ → Outcome (ℕ × List ℕ)
number_from [] = refused 1
number_from (a ∷ []) = refused 1
number_from (a ∷ b ∷ []) = refused 1
number_from (a ∷ b ∷ c ∷ ws) = do
  x ← bits_of 6 (2 ^ 24) a
  y ← bits_of 6 (2 ^ 24) b
  z ← bits_of 6 (2 ^ 16) c
  given (value_of 24 (x ∷ y ∷ z ∷ []), ws)

-- the bytes of a text word
unfoldable pub text_part : ℕ → Outcome (List ℕ)
text_part w = do
  x ← bits_of 7 (2 ^ 26) w
  let n = x / 2 ^ 24
  _ ← ask 1 (is_between 1 3 n && ltb (x % 2 ^ 24) (2 ^ (8 * n)))
  given (digits_of 8 n x)

unfoldable pub text_from : List ℕ → Outcome (List ℕ)  -- "all but the last carry 3"
text_from [] = given []
text_from (w ∷ []) = text_part w
text_from (w ∷ v ∷ ws) = text_part w >>= λ bs. ask 1 (eqb (length bs) 3) >>= λ _. text_from (v ∷ ws) >>= λ cs. given (bs ++ cs)

-- kinds 0, 2, 3, 4 and 5 begin a record; 1, 6 and 7 go on with it
unfoldable pub is_head : ℕ → Bool
is_head w = eqb (w / 2 ^ 29) 0 || is_between 2 5 (w / 2 ^ 29)

-- a head and the words up to the next head
unfoldable pub record_from : ℕ × List ℕ → Outcome Record
record_from g =
    let k = g.0 / 2 ^ 29 in
    if eqb k 0
    then (bits_of 0 (2 ^ 16) g.0 >>= λ a. memories_of g.1 >>= λ ms. given (block (record { address = a; words = ms })))
    else if eqb k 2
    then (bits_of 2 (2 ^ 17) g.0 >>= λ x. number_from g.1 >>= λ n. text_from n.1 >>= λ t.
    given (label (record { name = t; address = x % 2 ^ 16; external = leb (2 ^ 16) x; start = n.0 })))
    else if eqb k 3
    then (bits_of 3 1 g.0 >>= λ _. number_from g.1 >>= λ n. addresses_of n.1 >>= λ xs.
    given (line_block (record { first = n.0; addresses = xs })))
    else if eqb k 4
    then (bits_of 4 1 g.0 >>= λ _. text_from g.1 >>= λ t. given (source t))
    else (bits_of 5 (2 ^ 16) g.0 >>= λ a. text_from g.1 >>= λ t. given (relocation (record { address = a; name = t })))

unfoldable pub records_from : List (ℕ × List ℕ) → Outcome (List Record)  -- all of them
records_from [] = given []
records_from (g ∷ gs) = record_from g >>= λ r. records_from gs >>= λ rs. given (r ∷ rs)

-- The object that words are, or refused where they are not well formed: "every word is as listed above", then that the records' keys rise
-- strictly, which is the order of the parts, at most one source, and the order within each part; then what is left to ask of the parts.
unfoldable pub object_of : List ℕ → Outcome ObjectFile
object_of ws = do
  let parts = parts_at is_head ws
  _ ← ask 1 (is_empty parts.before)
  rs ← records_from parts.groups
  _ ← ask 1 (rises record_key rs)
  _ ← ask 1 (consistent (placed rs))
  given (placed rs)

unfoldable pub open-Words : Unit {0}
unfolding memory_word number_words text_words record_words words_of bits_of memory_of memories_of addresses_of number_from text_part text_from is_head
    record_from records_from object_of
open-Words = tt
