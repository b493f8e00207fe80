-- An object that is well formed, as a type, and one whose numbers fit their words: what every law of a trip asks and keeps.
-- Assumes nothing.
use mathlib.Core.Path.{◌≡◌}
use mathlib.Core.Bool.{true}
use mathlib.Core.List.{List, ◌++◌, map}
use mathlib.Core.Option.{Option, none, some}
use Prim.Native.Nat.{ℕ, ◌^◌, ◌<◌}
use Rattle.format.specs.Basics.{All}
use Rattle.format.specs.ObjectFile.{Block, Label, LineBlock, Relocation, ObjectFile, block_key, label_key, line_key, relocation_key, consistent, source_text}
use Rattle.format.specs.Records.{Record, block, label, line_block, source, relocation, records_of, source_records}
use Rattle.format.proofs.SortedLaws.{Rises}
use Rattle.format.proofs.Laws.{AllBelow}
use Rattle.format.proofs.ListLaws.{all_append, all-parts, all_images, all_sources}

pub record WellFormed (h : ObjectFile) : Type 0 where
  pub blocks : Rises block_key h.blocks
  pub labels : Rises label_key h.labels
  pub line_blocks : Rises line_key h.line_blocks
  pub relocations : Rises relocation_key h.relocations
  pub consistent : consistent h ≡ true

abbrev pub In16 : ℕ → Type 0
In16 x = x < (2 ^ 8) ^ 2

abbrev pub In64 : ℕ → Type 0
In64 x = x < (2 ^ 8) ^ 8

abbrev pub Word16 : Option ℕ → Type 0
Word16 none = Unit {0}
Word16 (some v) = In16 v

abbrev pub Bytes : List ℕ → Type 0
Bytes t = AllBelow (2 ^ 8) t

abbrev pub InBlock : Block → Type 0
InBlock b = In16 b.address × All Word16 b.words

abbrev pub InLabel : Label → Type 0
InLabel l = In16 l.address × In64 l.start × Bytes l.name

abbrev pub InLine : LineBlock → Type 0
InLine l = In64 l.first × All In16 l.addresses

abbrev pub InRelocation : Relocation → Type 0
InRelocation r = In16 r.address × Bytes r.name

-- addresses and memory below 2^16, numbers below 2^64, texts of bytes
pub record InRange (h : ObjectFile) : Type 0 where
  pub blocks : All InBlock h.blocks
  pub labels : All InLabel h.labels
  pub line_blocks : All InLine h.line_blocks
  pub source : Bytes (source_text h.source)
  pub relocations : All InRelocation h.relocations

-- the same of each record
abbrev pub InWords : Record → Type 0
InWords (block b) = InBlock b
InWords (label l) = InLabel l
InWords (line_block l) = InLine l
InWords (source s) = Bytes s
InWords (relocation r) = InRelocation r

source-range : (o : Option (List ℕ)) → Bytes (source_text o) → All InWords (source_records o)
unfolding source_records source_text
source-range none h = tt
source-range (some s) h = (h, tt)

range-source : (o : Option (List ℕ)) → All InWords (source_records o) → Bytes (source_text o)
unfolding source_records source_text
range-source none h = tt
range-source (some s) h = h.0

-- what holds of all records holds of the five parts, and the other way round
module _ (P : Record → Type 0) (h : ObjectFile) where
  pub of_parts :
      All (λ b. P (block b)) h.blocks → All (λ l. P (label l)) h.labels → All (λ l. P (line_block l)) h.line_blocks → All P (source_records h.source)
      → All (λ r. P (relocation r)) h.relocations → All P (records_of h)
  unfolding records_of
  of_parts b l m s r =
      all_append P (map block h.blocks ++ map label h.labels ++ map line_block h.line_blocks ++ source_records h.source) (map relocation h.relocations)
      (all_append P (map block h.blocks ++ map label h.labels ++ map line_block h.line_blocks) (source_records h.source)
      (all_append P (map block h.blocks ++ map label h.labels) (map line_block h.line_blocks)
      (all_append P (map block h.blocks) (map label h.labels) (all_images P block h.blocks b) (all_images P label h.labels l))
      (all_images P line_block h.line_blocks m)) s)
      (all_images P relocation h.relocations r)

  pub record PartsHave : Type 0 where
    pub blocks : All (λ b. P (block b)) h.blocks
    pub labels : All (λ l. P (label l)) h.labels
    pub line_blocks : All (λ l. P (line_block l)) h.line_blocks
    pub source : All P (source_records h.source)
    pub relocations : All (λ r. P (relocation r)) h.relocations

  pub to_parts : All P (records_of h) → PartsHave
  unfolding records_of
  to_parts all =
      let p4 = all-parts P (map block h.blocks ++ map label h.labels ++ map line_block h.line_blocks ++ source_records h.source) (map relocation h.relocations) all in
      let p3 = all-parts P (map block h.blocks ++ map label h.labels ++ map line_block h.line_blocks) (source_records h.source) p4.0 in
      let p2 = all-parts P (map block h.blocks ++ map label h.labels) (map line_block h.line_blocks) p3.0 in
      let p1 = all-parts P (map block h.blocks) (map label h.labels) p2.0 in
      record {
        blocks = all_sources P block h.blocks p1.0;
        labels = all_sources P label h.labels p1.1;
        line_blocks = all_sources P line_block h.line_blocks p2.1;
        source = p3.1;
        relocations = all_sources P relocation h.relocations p4.1;
      }

pub range_records : (h : ObjectFile) → InRange h → All InWords (records_of h)
range_records h r = of_parts InWords h r.blocks r.labels r.line_blocks (source-range h.source r.source) r.relocations

pub records_range : (h : ObjectFile) → All InWords (records_of h) → InRange h
records_range h all =
    let p = to_parts InWords h all in
    record { blocks = p.blocks; labels = p.labels; line_blocks = p.line_blocks; source = range-source h.source p.source; relocations = p.relocations }
