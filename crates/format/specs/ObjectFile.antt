-- An object file's five parts (document 01's "holding"), and what a well formed one is besides its words and their order. Assumes nothing.
use Rattle.std.specs.Prelude.{Bool, ◌&&◌, ◌||◌, List, [], ◌∷◌, ◌++◌, map, ℕ, ◌+◌, length, leb, ltb}
use Rattle.std.proofs.Math.Option.{Option, none, some}
use Rattle.format.specs.Basics.{is_some, is_empty, every, chain}
use Rattle.format.specs.Utf8.{is_utf8}

-- a block: memory words from an address on; a word that is not initialised is none
pub record Block : Type 0 where
  pub address : ℕ
  pub words : List (Option ℕ)

-- a label; its name is a text, and `start` is the source byte index where it stands
pub record Label : Type 0 where
  pub name : List ℕ
  pub address : ℕ
  pub external : Bool
  pub start : ℕ

-- a line block: the addresses of consecutive source lines from a first line on
pub record LineBlock : Type 0 where
  pub first : ℕ
  pub addresses : List ℕ

-- a relocation: the name whose address goes to an address
pub record Relocation : Type 0 where
  pub address : ℕ
  pub name : List ℕ

-- "An object file has five parts"; document 01's holding
pub record ObjectFile : Type 0 where
  pub blocks : List Block
  pub labels : List Label
  pub line_blocks : List LineBlock
  pub source : Option (List ℕ)
  pub relocations : List Relocation

-- "Blocks rise strictly by address, labels by name bytes, line blocks by first line, relocations by address": the keys
abbrev pub block_key : Block → List ℕ
block_key b = b.address ∷ []

abbrev pub label_key : Label → List ℕ  -- "labels by name bytes"
label_key l = l.name

abbrev pub line_key : LineBlock → List ℕ  -- "line blocks by first line"
line_key l = l.first ∷ []

abbrev pub relocation_key : Relocation → List ℕ  -- "relocations by address"
relocation_key r = r.address ∷ []

-- where a line block ends: "first line + count, as whole numbers"
abbrev pub line_end : LineBlock → ℕ
line_end l = l.first + length l.addresses

abbrev pub never_fall : List ℕ → Bool  -- "its addresses never fall"
never_fall ns = chain leb ns

abbrev pub strictly_rise : List ℕ → Bool  -- "strictly rising"
strictly_rise ns = chain ltb ns

-- "A line block ends .. at or before the next one's first"
unfoldable pub apart : List LineBlock → Bool
apart ls = chain (λ l m. leb (line_end l) m.first) ls

unfoldable pub names_of : ObjectFile → List (List ℕ)  -- the names of labels and of relocations
names_of h = map (λ l. l.name) h.labels ++ map (λ r. r.name) h.relocations

-- the text of a source, empty where there is none
unfoldable pub source_text : Option (List ℕ) → List ℕ
source_text none = []
source_text (some s) = s

-- The questions of a well formed object that its words and their order leave: at most 65,535 memory words to a block; line blocks apart;
-- their addresses never fall; line blocks need a source; texts are UTF-8.
unfoldable pub consistent : ObjectFile → Bool
consistent h =
    every (λ b. leb (length b.words) 65535) h.blocks
    && apart h.line_blocks
    && every (λ l. never_fall l.addresses) h.line_blocks
    && (is_empty h.line_blocks || is_some h.source)
    && every is_utf8 (names_of h)
    && is_utf8 (source_text h.source)

unfoldable pub open-ObjectFile : Unit {0}
unfolding apart names_of source_text consistent
open-ObjectFile = tt
