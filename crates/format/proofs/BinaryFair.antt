-- The binary trip of every fair object, in every order of its label and relocation records, where the file is no longer than a slice
-- can be. Assumes nothing.
use mathlib.Core.Path.{◌≡◌, refl, sym, ◌∙◌, ap}
use mathlib.Core.Bool.{true}
use mathlib.Core.List.{List, [], map, append-nil}
use mathlib.Core.Option.{Option, none, some}
use Prim.Native.Nat.{ℕ, ◌^◌, ◌≤◌, ◌<◌}
use native.Mathlib.Omega.{arith}
use lib.ListN.{length}
use Rattle.format.specs.Basics.{given, chain, is_empty, begins_with, All, is_some}
use Rattle.format.specs.Utf8.{is_utf8}
use Rattle.format.specs.Sorted.{upsert_all}
use Rattle.format.proofs.SortedLaws.{Rises}
use Rattle.format.proofs.GatherLaws.{sorted_back}
use Rattle.format.specs.ObjectFile.{Block, Label, LineBlock, Relocation, ObjectFile, block_key, apart, source_text}
use Rattle.format.specs.Records.{Record, block, label, line_block, source, relocation, records_of, source_records, drop_stray_relocations, empty_object, concluded, ask_all, with_lines}
use Rattle.format.specs.Words.{record_words, words_of}
use Rattle.format.specs.Binary.{magic, version, header, binary_file, binary_records, binary_object}
use Rattle.format.specs.Calls.{Reordered, in_order}
use Rattle.format.proofs.ListLaws.{unchanged, all_map, all_both, all_reordered, all_images, part-fits, empty_reordered, empty_is}
use Rattle.format.proofs.Ranges.{WellFormed, InRange, InBlock, InLabel, InLine, InRelocation, PartsHave, to_parts, of_parts}
use Rattle.format.proofs.FairLaws.{Consistent, consistent-parts, fair-source, fair-blocks}
use Rattle.format.specs.Fair.{FairLineBlock, FairSource, FairParts}
use Rattle.format.proofs.Counts.{label-length, source-length, relocation-length}
use Rattle.format.proofs.BinaryBack.{Writable, records_back}
use Rattle.format.proofs.BinaryTrip.{binary-trip, gather_blocks}
use Rattle.format.specs.Fair.{FairSource}

-- the length of a record's text fits its 8 bytes
abbrev pub Short : Record → Type 0
Short (block b) = Unit {0}
Short (label l) = length l.name < 2 ^ 64
Short (line_block l) = Unit {0}
Short (source s) = length s < 2 ^ 64
Short (relocation r) = length r.name < 2 ^ 64

record_short : (r : Record) → length (record_words r) < 2 ^ 62 → Short r
record_short (block b) n = tt
record_short (label l) n = omega (arith, label-length l)
record_short (line_block l) n = tt
record_short (source s) n = omega (arith, source-length s)
record_short (relocation r) n = omega (arith, relocation-length r)

pub texts-short : (h : ObjectFile) → length (words_of h) < 2 ^ 62 → PartsHave Short h
unfolding words_of
texts-short h n = to_parts Short h (all_map record_short (records_of h) (part-fits record_words (2 ^ 62) (records_of h) n))

block_writable : (b : Block) → InBlock b → length b.words ≤ 65535 → Writable (block b)
block_writable b h n = (h.0, omega arith, h.1)

label_writable : (l : Label) → InLabel l → is_utf8 l.name ≡ true → Short (label l) → Writable (label l)
label_writable l h u s = (h.0, h.1, (omega arith, u))

line_writable : (t : List ℕ) (l : LineBlock) → InLine l → FairLineBlock t l → Writable (line_block l)
line_writable t l h f = let n = f.few-lines in (h.0, omega arith, h.1, f.rising)

source_writable : (s : List ℕ) → is_utf8 s ≡ true → Short (source s) → Writable (source s)
source_writable s u h = (omega arith, u)

relocation_writable : (r : Relocation) → InRelocation r → is_utf8 r.name ≡ true → Short (relocation r) → Writable (relocation r)
relocation_writable r h u s = (h.0, (omega arith, u))

-- an object of blocks only
abbrev only : List Block → ObjectFile
only bs = record { blocks = bs; labels = []; line_blocks = []; source = none; relocations = [] }

only_records : (bs : List Block) → records_of (only bs) ≡ map block bs
unfolding records_of source_records
only_records bs = simp append-nil

blocks-trip : (bs : List Block) → Rises block_key bs → All (λ b. Writable (block b)) bs → binary_object (binary_file (only bs)) ≡ given (only bs)
unfolding binary_object binary_records binary_file header magic version begins_with drop_stray_relocations is_some apart chain empty_object is_empty concluded ask_all
blocks-trip bs h w =
    let a = records_back (map block bs) (all_images Writable block bs w) in
    let b : upsert_all block_key bs [] ≡ bs = sorted_back block_key bs bs h (unchanged bs) in
    rw (only_records bs, a, gather_blocks empty_object bs, b)

module _ (h : ObjectFile) (ls : List Label) (rs : List Relocation) (w : WellFormed h) (r : InRange h) (p : Reordered h.labels ls) (q : Reordered h.relocations rs) (short : PartsHave Short h) where
  sounds : Consistent h
  sounds = consistent-parts h w.consistent

  blocks_writable : All (λ b. Writable (block b)) h.blocks
  blocks_writable = all_map (λ b u. block_writable b u.0 u.1) h.blocks (all_both InBlock (λ b. length b.words ≤ 65535) h.blocks r.blocks sounds.counts)

  labels_writable : All (λ l. Writable (label l)) ls
  labels_writable =
      all_map (λ l u. label_writable l u.0.0 u.0.1 u.1) ls
      (all_both (λ l. InLabel l × (is_utf8 l.name ≡ true)) (λ l. Short (label l)) ls
      (all_reordered (λ l. InLabel l × (is_utf8 l.name ≡ true)) p (all_both InLabel (λ l. is_utf8 l.name ≡ true) h.labels r.labels sounds.names.labels)) (all_reordered (λ l. Short (label l)) p short.labels))

  relocations_writable : All (λ x. Writable (relocation x)) rs
  relocations_writable =
      all_map (λ x u. relocation_writable x u.0.0 u.0.1 u.1) rs
      (all_both (λ x. InRelocation x × (is_utf8 x.name ≡ true)) (λ x. Short (relocation x)) rs
      (all_reordered (λ x. InRelocation x × (is_utf8 x.name ≡ true)) q (all_both InRelocation (λ x. is_utf8 x.name ≡ true) h.relocations r.relocations sounds.names.relocations)) (all_reordered (λ x. Short (relocation x)) q short.relocations))

  lines_writable : (s : List ℕ) → FairSource h s → All (λ l. Writable (line_block l)) h.line_blocks
  lines_writable s f = all_map (λ l u. line_writable s l u.0 u.1) h.line_blocks (all_both InLine (FairLineBlock s) h.line_blocks r.line_blocks f.line-blocks)

-- the object with this source
abbrev holds : ObjectFile → Option (List ℕ) → ObjectFile
holds h o = with_lines h h.line_blocks o

by_source :
    (h : ObjectFile) (o : Option (List ℕ)) (ls : List Label) (rs : List Relocation) → WellFormed (holds h o) → InRange (holds h o) → FairParts (holds h o)
    → Reordered h.labels ls → Reordered h.relocations rs → PartsHave Short (holds h o)
    → binary_object (binary_file (in_order (holds h o) ls rs)) ≡ given (holds h o)
unfolding source_records source_text is_empty
by_source h none ls rs w r f p q short =
    let b = fair-blocks (holds h none) refl f in
    let l : ls ≡ [] = empty_is ls (sym (empty_reordered p) ∙ ap is_empty b.labels) in
    let m : rs ≡ [] = empty_is rs (sym (empty_reordered q) ∙ ap is_empty b.relocations) in
    let e = blocks-trip h.blocks w.blocks (blocks_writable (holds h none) ls rs w r p q short) in
    rw (l, m, b.labels, b.line-blocks, b.relocations) e
by_source h (some s) ls rs w r f p q short =
    let g : ObjectFile = holds h (some s) in
    let fs : FairSource g s = fair-source g s refl f in
    let u : Consistent g = sounds g ls rs w r p q short in
    binary-trip h.blocks h.labels ls h.line_blocks s h.relocations rs w.blocks w.labels w.line_blocks w.relocations u.apart p q
    (of_parts Writable (in_order g ls rs) (blocks_writable g ls rs w r p q short) (labels_writable g ls rs w r p q short) (lines_writable g ls rs w r p q short s fs)
    (source_writable s u.text short.source.0, tt) (relocations_writable g ls rs w r p q short))

pub binary-fair :
    (h : ObjectFile) (ls : List Label) (rs : List Relocation) → WellFormed h → InRange h → FairParts h → Reordered h.labels ls → Reordered h.relocations rs
    → PartsHave Short h → binary_object (binary_file (in_order h ls rs)) ≡ given h
binary-fair h ls rs = by_source h h.source ls rs
