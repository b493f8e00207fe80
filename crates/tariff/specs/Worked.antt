-- The tariff's worked cases: what no law pins, as the amounts and the limit, each in a named row. Assumes nothing.
use Rattle.std.specs.Prelude.{◌≡◌, true, false, List, [], ◌∷◌, ◌++◌, ℕ, ◌+◌, replicate}
use Rattle.format.specs.Basics.{All}
use Rattle.format.specs.Marked.{words18}
use Rattle.tariff.specs.Tariff.{Fee, lending_fee}

-- words, and what lending them costs a college that is no member, and a member
pub record Case : Type 0 where
  pub words : List ℕ
  pub other : Fee
  pub member : Fee

abbrev pub Holds : Case → Type 0
Holds c = (lending_fee c.words false ≡ c.other) × (lending_fee c.words true ≡ c.member)

-- the two fees, and the addends for words and for labels
abbrev pub charged : List ℕ → ℕ → ℕ → ℕ → ℕ → Case
charged ws other member words labels = record {
  words = ws;
  other = record { number = 0; fee = other; base = 150; words = words; labels = labels };
  member = record { number = 0; fee = member; base = 150; words = words; labels = labels };
}

abbrev pub not_charged : List ℕ → ℕ → Case
not_charged ws n =
    let refusal : Fee = record { number = n; fee = 0; base = 0; words = 0; labels = 0 } in
    record { words = ws; other = refusal; member = refusal }

-- a block of so many memory words, one word more
abbrev pub block_of : ℕ → List ℕ
block_of n = 0x3000 ∷ replicate n 0x20011234

-- a source of so many words, each three letters, one word more
abbrev pub source_of : ℕ → List ℕ
source_of n = 0x80000000 ∷ replicate n 0xE3616161

-- "An empty holding costs 150, or 105 for members."
abbrev pub empty : Case
empty = charged [] 150 105 0 0

-- document 01's 18 words: 108.5 cents go up
abbrev pub paper : Case
paper = charged (words18 0xA0000130) 155 109 4 1

-- 107.8 cents go up
abbrev pub words_255 : Case
words_255 = charged (block_of 254) 154 108 4 0

abbrev pub words_256 : Case
words_256 = charged (block_of 255) 154 108 4 0

-- 110.6 cents go up
abbrev pub words_257 : Case
words_257 = charged (block_of 256) 158 111 8 0

-- 113.4 cents go down
abbrev pub words_513 : Case
words_513 = charged (block_of 512) 162 113 12 0

-- a label at x3000 with this letter as its name
abbrev pub label_of : ℕ → List ℕ
label_of letter = 0x40003000 ∷ 0xC0000000 ∷ 0xC0000000 ∷ 0xC0000000 ∷ (0xE1000000 + letter) ∷ []

-- 109.2 cents go down
abbrev pub labels_2 : Case
labels_2 = charged (label_of 0x41 ++ label_of 0x42) 156 109 4 2

-- 109.9 cents go up
abbrev pub labels_3 : Case
labels_3 = charged (label_of 0x41 ++ label_of 0x42 ++ label_of 0x43) 157 110 4 3

-- memory words that no block begins
abbrev pub stray_words : ℕ → List ℕ
stray_words n = 0x20000000 ∷ replicate n 0x20000000

abbrev pub ill_formed : Case
ill_formed = not_charged (stray_words 0) 1

-- "at most 16,777,216 words": 183605.8 cents go up
abbrev pub longest : Case
longest = charged (source_of 16777215) 262294 183606 262144 0

abbrev pub too_long : Case
too_long = not_charged (source_of 16777216) 38

-- "asked after 1"
abbrev pub too_long-and_ill_formed : Case
too_long-and_ill_formed = not_charged (stray_words 16777216) 1

-- the table: amounts, and what is refused or just not
abbrev pub amounts : List Case
amounts = empty ∷ paper ∷ words_255 ∷ words_256 ∷ words_257 ∷ words_513 ∷ labels_2 ∷ labels_3 ∷ []

abbrev pub limits : List Case
limits = ill_formed ∷ longest ∷ too_long ∷ too_long-and_ill_formed ∷ []

abbrev pub WorkedHold : Type 0
WorkedHold = All Holds (amounts ++ limits)
