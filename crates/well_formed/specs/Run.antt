-- The check of an object as one walk along its records. The definition reads all records, and then asks for their order and that the
-- object is consistent; the walk asks everything of a record that the records before it leave to ask. Assumes nothing.
use Rattle.std.specs.Prelude.{Bool, true, false, ◌&&◌, ◌||◌, not, List, [], ◌∷◌, ℕ, length, leb}
use Rattle.format.specs.Sorted.{order, is_less}
use Rattle.format.specs.Utf8.{is_utf8}
use Rattle.format.specs.ObjectFile.{line_end, never_fall}
use Rattle.format.specs.Records.{Record, block, label, line_block, source, relocation, record_key}
use Rattle.format.specs.Words.{record_from}
use Rattle.object.specs.Bodies.{allows}

-- what the records so far leave to ask: the last key ([] before the first), where the last line block ends, and whether there was a line
-- block and a source
pub record Past : Type 0 where
  pub key : List ℕ
  pub end : ℕ
  pub lined : Bool
  pub sourced : Bool

abbrev pub start : Past
start = record { key = []; end = 0; lined = false; sourced = false }

-- a record by itself
unfoldable pub sound_record : Record → Bool
sound_record (block b) = leb (length b.words) 65535
sound_record (label l) = is_utf8 l.name
sound_record (line_block l) = never_fall l.addresses
sound_record (source s) = is_utf8 s
sound_record (relocation r) = is_utf8 r.name

unfoldable pub apart_from : ℕ → Record → Bool
apart_from e (block b) = true
apart_from e (label l) = true
apart_from e (line_block l) = leb e l.first
apart_from e (source s) = true
apart_from e (relocation r) = true

unfoldable pub fits : Past → Record → Bool
fits p r = is_less (order p.key (record_key r)) && (sound_record r && apart_from p.end r)

unfoldable pub after : Past → Record → Past
after p (block b) = record { key = record_key (block b); end = p.end; lined = p.lined; sourced = p.sourced }
after p (label l) = record { key = record_key (label l); end = p.end; lined = p.lined; sourced = p.sourced }
after p (line_block l) = record { key = record_key (line_block l); end = line_end l; lined = true; sourced = p.sourced }
after p (source s) = record { key = record_key (source s); end = p.end; lined = p.lined; sourced = true }
after p (relocation r) = record { key = record_key (relocation r); end = p.end; lined = p.lined; sourced = p.sourced }

-- line blocks need a source
abbrev pub closed : Past → Bool
closed p = not p.lined || p.sourced

unfoldable pub along : Past → List Record → Bool
along p [] = closed p
along p (r ∷ rs) = fits p r && along (after p r) rs

-- the same from the words: each head with the words up to the next
unfoldable pub walk : Past → List (ℕ × List ℕ) → Bool
walk p [] = closed p
walk p (g ∷ gs) = allows (record_from g) (λ r. fits p r && walk (after p r) gs)
