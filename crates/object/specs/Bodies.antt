-- The words of a record, by their place in the object. Assumes nothing.
use Rattle.std.specs.Prelude.{◌≡◌, Bool, true, false, cond, ◌&&◌, List, [], ℕ, ◌+◌, ◌*◌, ◌/◌, ◌%◌, ◌^◌, ◌≤◌, length, drop, eqb, Option, Some, None}
use Rattle.format.specs.Basics.{Outcome, refused, given, given_or}
use Rattle.format.specs.Digits.{digits_of}
use Rattle.format.specs.Tokens.{parts_at}
use Rattle.format.specs.Utf8.{is_utf8}
use Rattle.format.specs.Basics.{is_given}
use Rattle.format.specs.ObjectFile.{never_fall}
use Rattle.format.specs.Words.{is_head, memories_of, addresses_of, number_from, text_from}
use Rattle.object.specs.declared.Kind.{Kind}
use Rattle.object.specs.declared.Kind.TheVariants as kind

-- the number of a kind, as the top 3 bits of a word hold it
abbrev pub kind_number : Kind → ℕ
kind_number kind.Block = 0
kind_number kind.Memory = 1
kind_number kind.Label = 2
kind_number kind.LineBlock = 3
kind_number kind.Source = 4
kind_number kind.Relocation = 5
kind_number kind.Number = 6
kind_number kind.Text = 7

-- given, and what is given passes
abbrev pub allows : {A : Type 0} → Outcome A → (A → Bool) → Bool
allows (refused n) p = false
allows (given a) p = p a

-- the words from a place up to the next head, and the records from there
unfoldable pub body_at : List ℕ → ℕ → List ℕ
body_at ws at = (parts_at is_head (drop at ws)).before

unfoldable pub groups_at : List ℕ → ℕ → List (ℕ × List ℕ)
groups_at ws at = (parts_at is_head (drop at ws)).groups

-- the words that go on at either place end at the same one
abbrev pub SameEnd : List ℕ → ℕ → ℕ → Type 0
SameEnd ws at next = at + length (body_at ws at) ≡ next + length (body_at ws next)

-- the text at a place
abbrev pub text_at : List ℕ → ℕ → List ℕ
text_at ws at = given_or (text_from (body_at ws at)) []

-- packed words, which a text is read from
abbrev pub Text : List ℕ → Type 0
Text ws = is_given (text_from ws) ≡ true

unfoldable pub good_memory : List ℕ → Bool
good_memory ws = is_given (memories_of ws)

unfoldable pub good_addresses : List ℕ → Bool
good_addresses ws = allows (addresses_of ws) never_fall

unfoldable pub good_text : List ℕ → Bool
good_text ws = allows (text_from ws) is_utf8

-- what a text word is that carries so many bytes
abbrev pub counted : ℕ → ℕ → Outcome (List ℕ)
counted n w = cond (eqb n 0) (refused 1) (given (digits_of 8 n w))

-- a text word as a number that is larger for the later of two words: its bytes, the first highest, and their count
abbrev pub rank_of : ℕ → ℕ
rank_of w = w % 256 * 0x100_0000 + w / 256 % 256 * 0x1_0000 + w / 65536 % 256 * 256 + w / 0x100_0000 % 4

-- the number at a place, 0 where there is none
abbrev pub value_in : Outcome (ℕ × List ℕ) → ℕ
value_in (refused n) = 0
value_in (given v) = v.0

unfoldable pub number_at : List ℕ → ℕ → ℕ
number_at ws at = value_in (number_from (body_at ws at))

-- three words are a number's: all of kind 6, and no bits above its 64
abbrev pub are_number : ℕ → ℕ → ℕ → Bool
are_number a b c = eqb (a / 2 ^ 24) 0xC0 && (eqb (b / 2 ^ 24) 0xC0 && eqb (c / 2 ^ 16) 0xC000)

-- the answers of the code
abbrev pub Numbered : List ℕ → ℕ → Option ℕ → Type 0
Numbered ws at (Some v) = (number_from (body_at ws at) ≡ given (v, body_at ws (at + 3))) × (at + 3 ≤ length ws)
Numbered ws at None = number_from (body_at ws at) ≡ refused 1
