-- Fair objects (document 01, "Fair"): the facts by name, over words; `is_fair` is the same as a test. Assumes nothing.
use Rattle.std.specs.Prelude.{◌≡◌, Bool, true, false, ◌&&◌, not, List, [], ℕ, ◌≤◌, length, leb, ltb}
use Rattle.std.proofs.Math.Option.{Option, none, some}
use Rattle.format.specs.Basics.{given, ascii, is_empty, every, chain, begins_with, All}
use Rattle.format.specs.Utf8.{is_between, is_white_space, scalars_of}
use Rattle.format.specs.ObjectFile.{LineBlock, ObjectFile, line_end, strictly_rise, names_of}
use Rattle.format.specs.Words.{object_of}
use Rattle.format.specs.Source.{newlines}

-- no Unicode White_Space among a name's characters
unfoldable pub no_white_space : List ℕ → Bool
no_white_space n = every (λ c. not (is_white_space c)) (scalars_of n)

-- "every name has at least one character, no Unicode White_Space, and does not begin with `.`, `#` or `=`"
pub record FairName (n : List ℕ) : Type 0 where
  pub some_character : is_empty n ≡ false
  pub no_white_space_lem : no_white_space n ≡ true
  pub no_dot : begins_with (ascii ".") n ≡ false
  pub no_hash : begins_with (ascii "#") n ≡ false
  pub no_equals : begins_with (ascii "=") n ≡ false

-- "each line block has 1 to 65,535 strictly rising addresses, and its first line + count is .. at most the last source line's number
-- (lines count from 0)": that number is the newlines of the source s
pub record FairLineBlock (s : List ℕ) (l : LineBlock) : Type 0 where
  pub some_lines : 1 ≤ length l.addresses
  pub few-lines : length l.addresses ≤ 65535
  pub rising : strictly_rise l.addresses ≡ true
  pub in_source : line_end l ≤ newlines s

-- "its first line + count is below the next block's first line"
unfoldable pub gaps_between : List LineBlock → Bool
gaps_between ls = chain (λ l m. ltb (line_end l) m.first) ls

-- "or with source, where .."
pub record FairSource (h : ObjectFile) (s : List ℕ) : Type 0 where
  pub source : h.source ≡ some s
  pub names : All FairName (names_of h)
  pub line-blocks : All (FairLineBlock s) h.line_blocks
  pub gaps : gaps_between h.line_blocks ≡ true

-- "blocks only"
pub record BlocksOnly (h : ObjectFile) : Type 0 where
  pub labels : h.labels ≡ []
  pub line-blocks : h.line_blocks ≡ []
  pub source : h.source ≡ none
  pub relocations : h.relocations ≡ []

-- what a fair object is besides well formed
pub data FairParts (h : ObjectFile) : Type 0 where
  only-blocks : BlocksOnly h → FairParts h
  with_source_lem : (s : List ℕ) → FairSource h s → FairParts h

-- document 01's "fair": well formed words, and the facts above of their parts
pub record Fair (ws : List ℕ) : Type 0 where
  pub object : ObjectFile
  pub well_formed : object_of ws ≡ given object
  pub parts : FairParts object

-- the same as tests, for the call that asks
unfoldable pub is_fair_name : List ℕ → Bool
is_fair_name n =
    not (is_empty n) && no_white_space n && not (begins_with (ascii ".") n) && not (begins_with (ascii "#") n) && not (begins_with (ascii "=") n)

unfoldable pub is_fair_line_block : List ℕ → LineBlock → Bool  -- `FairLineBlock` as a test
is_fair_line_block s l = is_between 1 65535 (length l.addresses) && strictly_rise l.addresses && leb (line_end l) (newlines s)

unfoldable pub is_fair_by : Option (List ℕ) → ObjectFile → Bool  -- `FairParts` as a test, by the source
is_fair_by none h = is_empty h.labels && is_empty h.line_blocks && is_empty h.relocations
is_fair_by (some s) h = every is_fair_name (names_of h) && every (is_fair_line_block s) h.line_blocks && gaps_between h.line_blocks

unfoldable pub is_fair : ObjectFile → Bool  -- `FairParts` as a test
is_fair h = is_fair_by h.source h

unfoldable pub open-Fair : Unit {0}
unfolding no_white_space gaps_between is_fair_name is_fair_line_block is_fair_by is_fair
open-Fair = tt
