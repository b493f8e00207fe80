-- A binary trip of an object with source, in every order of its label and relocation records: the object. Assumes nothing.
use mathlib.Core.Path.{◌≡◌, refl, ◌∙◌, ap}
use mathlib.Core.Bool.{true, and-false}
use mathlib.Core.List.{List, [], ◌∷◌, ◌++◌, map}
use mathlib.Core.Option.{Option, none, some}
use Prim.Native.Nat.{ℕ}
use Rattle.format.specs.Basics.{given, begins_with, is_empty, All, is_some}
use Rattle.format.specs.Sorted.{upsert, upsert_all}
use Rattle.format.proofs.SortedLaws.{Rises}
use Rattle.format.proofs.GatherLaws.{sorted_back, gather_append, gather_labels}
use Rattle.format.specs.ObjectFile.{Block, Label, LineBlock, Relocation, ObjectFile, block_key, label_key, line_key, relocation_key, source_text, apart}
use Rattle.format.specs.Records.{block, label, line_block, source, relocation, records_of, source_records, put_record, gather_records, drop_stray_relocations, empty_object, with_blocks, with_lines, with_relocations, concluded, ask_all}
use Rattle.format.specs.Binary.{magic, version, header, binary_file, binary_records, binary_object}
use Rattle.format.specs.Calls.{Reordered, in_order}
use Rattle.format.proofs.ListLaws.{unchanged}
use Rattle.format.proofs.BinaryBack.{Writable, records_back}

pub gather_blocks : (h : ObjectFile) (bs : List Block) → gather_records h (map block bs) ≡ with_blocks h (upsert_all block_key bs h.blocks)
unfolding gather_records put_record upsert_all
gather_blocks h [] = refl
gather_blocks h (b ∷ bs) = gather_blocks (with_blocks h (upsert block_key b h.blocks)) bs

pub gather_relocations : (h : ObjectFile) (rs : List Relocation) → gather_records h (map relocation rs) ≡ with_relocations h (upsert_all relocation_key rs h.relocations)
unfolding gather_records put_record upsert_all
gather_relocations h [] = refl
gather_relocations h (r ∷ rs) = gather_relocations (with_relocations h (upsert relocation_key r h.relocations)) rs

unfoldable pub source_after : List LineBlock → Option (List ℕ) → Option (List ℕ)
source_after [] o = o
source_after (m ∷ ms) o = some (source_text o)

source_stays : (ms : List LineBlock) (s : List ℕ) → source_after ms (some s) ≡ some s
unfolding source_after source_text
source_stays [] s = refl
source_stays (m ∷ ms) s = refl

pub gather_lines : (h : ObjectFile) (ms : List LineBlock) → gather_records h (map line_block ms) ≡ with_lines h (upsert_all line_key ms h.line_blocks) (source_after ms h.source)
unfolding gather_records put_record upsert_all source_after
gather_lines h [] = refl
gather_lines h (m ∷ ms) =
    gather_lines (with_lines h (upsert line_key m h.line_blocks) (some (source_text h.source))) ms
    ∙ ap (λ (o : Option (List ℕ)). with_lines h (upsert_all line_key ms (upsert line_key m h.line_blocks)) o) (source_stays ms (source_text h.source))

-- a text after none: where there was no source before the line blocks, the source record gives it whole
source-whole : (ms : List LineBlock) (s : List ℕ) → source_text (source_after ms none) ++ s ≡ s
unfolding source_after source_text
source-whole [] s = refl
source-whole (m ∷ ms) s = refl

module _ (bs : List Block) (ls₀ ls : List Label) (ms : List LineBlock) (s : List ℕ) (rs₀ rs : List Relocation) where
  -- the object, and the order in which its records are written
  abbrev pub taken : ObjectFile
  taken = record { blocks = bs; labels = ls₀; line_blocks = ms; source = some s; relocations = rs₀ }

  gathered :
      Rises block_key bs → Rises label_key ls₀ → Rises line_key ms → Rises relocation_key rs₀ → Reordered ls₀ ls → Reordered rs₀ rs
      → gather_records empty_object (map block bs ++ map label ls ++ map line_block ms ++ source s ∷ [] ++ map relocation rs) ≡ taken
  unfolding gather_records put_record empty_object
  gathered hb hl hm hr pl pr =
      let e1 : upsert_all block_key bs [] ≡ bs = sorted_back block_key bs bs hb (unchanged bs) in
      let e2 : upsert_all label_key ls [] ≡ ls₀ = sorted_back label_key ls₀ ls hl pl in
      let e3 : upsert_all line_key ms [] ≡ ms = sorted_back line_key ms ms hm (unchanged ms) in
      let e4 : upsert_all relocation_key rs [] ≡ rs₀ = sorted_back relocation_key rs₀ rs hr pr in
      rw
      (gather_append, gather_append, gather_append, gather_append, gather_blocks empty_object bs, e1, gather_labels, e2, gather_lines, e3, gather_relocations, e4, source-whole ms s)

  pub binary-trip :
      Rises block_key bs → Rises label_key ls₀ → Rises line_key ms → Rises relocation_key rs₀ → apart ms ≡ true
      → Reordered ls₀ ls → Reordered rs₀ rs → All Writable (records_of (in_order taken ls rs))
      → binary_object (binary_file (in_order taken ls rs)) ≡ given taken
  unfolding binary_object binary_records binary_file header magic version begins_with records_of source_records drop_stray_relocations is_some concluded ask_all
  binary-trip hb hl hm hr ha pl pr range =
      let e0 = records_back (records_of (in_order taken ls rs)) range in
      let e1 = gathered hb hl hm hr pl pr in
      rw (e0, e1, and-false (is_empty ls₀), ha)
