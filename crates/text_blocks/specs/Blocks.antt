-- .TEXT from a place on: blocks, parsed first and put then, and the addresses seen so far.
-- Assumes nothing.
use Rattle.std.specs.Prelude as std
use Rattle.std.specs.Prelude.{Some, None, Result, Ok, Err, ◌≡◌, ℕ, zero, suc, ◌+◌, ◌*◌, ◌/◌, ◌%◌, ◌^◌, ◌<◌, ◌≤◌, Bool, true, false, ◌&&◌, List, [], ◌∷◌, map, length, drop, ◌==◌, ◌≢◌, nat_lt, slice_index, slice_set, if◌then◌else◌}
use mathlib.Core.List.{flat_map}
use Rattle.std.proofs.Math.Option.{Option, none, some}
use Rattle.format.specs.Basics.{Outcome, refused, given, and_then, is_some}
use Rattle.format.specs.Sorted.{at_key}
use Rattle.format.specs.TextReader.{hex2u16, parse_decimal, parse_number, maybe_hex2u16, parse_text_group}
use Rattle.format.specs.ObjectFile.{ObjectFile, Block, block_key}
use Rattle.text_lines.specs.Lines.{is_four_long}
use Rattle.units.specs.declared.refusal.Refusal.{Refusal}
use Rattle.units.specs.Refusal.{number_of}
use Rattle.text_blocks.specs.declared.Text.{Text}
use Rattle.text_blocks.specs.declared.Body.{Body}
use Rattle.text_blocks.specs.declared.TextBlock.{TextBlock}
use Rattle.format.specs.Records.{block}
use Rattle.format.specs.Words.{memory_word, record_words}
use Rattle.trim.specs.Span.{part}
use Rattle.text_cells.specs.Cells.{digit_or16}
use Rattle.text_lines.specs.Groups.{parts_from, RowAt}

-- what a byte of an entry stands for: a digit for its value, `?` for 61, and any other byte for 255
unfoldable pub entry_digit : ℕ → ℕ
entry_digit b = if b == 63 then 61 else if nat_lt (digit_or16 b) 16 then digit_or16 b else 255

-- a table has what the bytes from i on stand for
unfoldable pub table_from : ℕ → List ℕ → Bool
table_from i [] = true
table_from i (x ∷ xs) = x == entry_digit i && table_from (suc i) xs

unfoldable pub is_table : List ℕ → Bool  -- and of all 256
is_table xs = length xs == 256 && table_from 0 xs

-- an entry of four bytes at a place, and its memory word
pub record EntryAt (t : List ℕ) (at w : ℕ) : Type 0 where
  pub row : RowAt t at at (at + 4) (at + 4 + 1)
  pub entry : Option ℕ
  pub read : some entry ≡ maybe_hex2u16 (part at (at + 4) t)
  pub made : w ≡ memory_word entry

-- the word of an entry whose bytes stand for these numbers, by their sum: four digits, four `?`, or others
unfoldable pub four_word : ℕ → ℕ → ℕ → ℕ → ℕ
four_word a b c d =
    if nat_lt (a + b + c + d) 61 then 0x2001_0000 + (((a * 16 + b) * 16 + c) * 16 + d)
    else if a + b + c + d == 244 then 0x2000_0000
    else 0

-- the word of the entry of four bytes at a place, by a table of what bytes stand for; 0 where there is none
unfoldable pub short_entry : List ℕ → List ℕ → ℕ → ℕ
short_entry digits t at =
    if is_four_long t at
    then four_word (slice_index digits (slice_index t at)) (slice_index digits (slice_index t (at + 1))) (slice_index digits (slice_index t (at + 2))) (slice_index digits (slice_index t (at + 3)))
    else 0

-- and what it says of the group's lines: 0 says nothing
abbrev pub ShortEntry : List ℕ → List ℕ → ℕ → ℕ → Type 0
ShortEntry digits t at w = is_table digits ≡ true → (w ≢ 0) → EntryAt t at w

-- the entries of the first n lines
unfoldable pub words_in : ℕ → List (List ℕ) → Option (List (Option ℕ))
words_in zero ls = some []
words_in (suc n) [] = none
words_in (suc n) (l ∷ ls) = and_then (maybe_hex2u16 l) λ w. and_then (words_in n ls) λ ws. some (w ∷ ws)

-- the block that lines begin with, and its count
unfoldable pub block_in : List (List ℕ) → Option (Block × ℕ)
block_in [] = none
block_in (l ∷ []) = none
block_in (l ∷ c ∷ ls) =
    and_then (hex2u16 l) λ a. and_then (parse_decimal 65536 c) λ n.
    and_then (words_in n ls) λ ws. some (record { address = a; words = ws }, n)

-- an entry at a place, and the place after it
pub record EntryTo (t : List ℕ) (at q : ℕ) : Type 0 where
  pub start : ℕ
  pub end : ℕ
  pub row : RowAt t at start end q
  pub entry : Option ℕ
  pub read : some entry ≡ maybe_hex2u16 (part start end t)

abbrev pub OneEntry : List ℕ → ℕ → std.Option ℕ → Type 0
OneEntry t at (Some q) = EntryTo t at q
OneEntry t at None = (n : ℕ) → 0 < n → is_some (words_in n (parts_from t at).before) ≡ false

-- lines of the group that were passed over, n of them, all entries
pub record EntriesAt (t : List ℕ) (at n q : ℕ) : Type 0 where
  pub from : at ≤ q
  pub read : is_some (words_in n (parts_from t at).before) ≡ true
  pub same : parts_from t q ≡ record { before = drop n (parts_from t at).before; groups = (parts_from t at).groups }

abbrev pub Entries : List ℕ → ℕ → ℕ → std.Option ℕ → Type 0
Entries t at n (Some q) = EntriesAt t at n q
Entries t at n None = is_some (words_in n (parts_from t at).before) ≡ false

-- a block from its count on: the count, where its entries start, and the place after them
pub record BodyAt (t : List ℕ) (at n p q : ℕ) : Type 0 where
  pub start : ℕ
  pub end : ℕ
  pub row : RowAt t at start end p
  pub count : some n ≡ parse_number 10 65536 (part start end t)
  pub entries : EntriesAt t p n q

abbrev pub BodyIs : List ℕ → ℕ → std.Option Body → Type 0
BodyIs t at (Some b) = BodyAt t at b.count b.entries b.next
BodyIs t at None = (l : List ℕ) → block_in (l ∷ (parts_from t at).before) ≡ none

-- a block: its address and count, where its entries start, and the place after them
pub record BlockFrom (t : List ℕ) (at a n p q : ℕ) : Type 0 where
  pub on : at < q
  pub inside : at < length t
  pub address : a < 65536
  pub words : List (Option ℕ)
  pub lines : List (List ℕ)
  pub first : List ℕ
  pub rows : (parts_from t at).before ≡ first ∷ lines
  pub read : block_in (parts_from t at).before ≡ some (record { address = a; words = words }, n)
  pub there : words_in n (parts_from t p).before ≡ some words
  pub rest : (parts_from t q).before ≡ drop (suc n) lines
  pub groups : (parts_from t q).groups ≡ (parts_from t at).groups

pub record NoBlock (t : List ℕ) (at : ℕ) : Type 0 where
  pub first : List ℕ
  pub lines : List (List ℕ)
  pub rows : (parts_from t at).before ≡ first ∷ lines
  pub read : block_in (parts_from t at).before ≡ none

abbrev pub NextBlock : List ℕ → ℕ → Result (std.Option TextBlock) Refusal → Type 0
NextBlock t at (Ok (Some b)) = BlockFrom t at b.address b.count b.entries b.next
NextBlock t at (Ok None) = (parts_from t at).before ≡ []
NextBlock t at (Err r) = (number_of r ≡ 24) × NoBlock t at

-- the mark of an address: bit a % 8 of byte a / 8
unfoldable pub is_marked : List ℕ → ℕ → Bool
is_marked seen a = slice_index seen (a / 8) / 2 ^ (a % 8) % 2 == 1

-- the marks, with that of an address that had none
unfoldable pub marked : List ℕ → ℕ → List ℕ
marked seen a = slice_set seen (a / 8) (slice_index seen (a / 8) + 2 ^ (a % 8))

-- the addresses that the object has blocks at are marked
abbrev pub Seen : ObjectFile → List ℕ → Type 0
Seen h seen = (a : ℕ) → is_some (at_key block_key (a ∷ []) h.blocks) ≡ is_marked seen a

-- how many words blocks have
unfoldable pub blocks_length : List Block → ℕ
blocks_length bs = length (flat_map record_words (map block bs))

-- and those of the object, as 64 bits count
abbrev pub Counts : ObjectFile → ℕ → Type 0
Counts h words = words ≡ blocks_length h.blocks % 2 ^ 64

-- an outcome has this number, and with 0 its addresses are marked, and its words counted
abbrev pub Settles : Outcome ObjectFile → ℕ → List ℕ → ℕ → Type 0
Settles (refused n) number seen words = number ≡ n
Settles (given h) number seen words = (number ≡ 0) × Seen h seen × Counts h words

-- what a check comes to: its number, the place after the group, and the count of words; refused, it is at the group's place
pub record Checked : Type 0 where
  pub number : ℕ
  pub next : ℕ
  pub words : ℕ

abbrev pub text_view : ℕ → Result Text Refusal → Checked
text_view at (Ok r) = record { number = 0; next = r.next; words = r.words }
text_view at (Err r) = record { number = number_of r; next = at; words = 0 }

-- What a check of .TEXT's lines comes to, from marks and a count that stand for any object. With fewer than 8,192 bytes of marks nothing is marked: 3.
pub record BlocksChecked (t : List ℕ) (at words : ℕ) (seen seen' : List ℕ) (r : Checked) : Type 0 where
  pub from : at ≤ r.next
  pub after : r.number ≡ 0 → parts_from t r.next ≡ record { before = []; groups = (parts_from t at).groups }
  pub short : length seen < 8192 → (r.number ≡ 3) × (seen' ≡ seen)
  pub settles : 8192 ≤ length seen → (h : ObjectFile) → Seen h seen → Counts h words
      → Settles (parse_text_group h (parts_from t at).before) r.number seen' r.words
