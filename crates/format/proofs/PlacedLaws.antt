-- An object's records, each placed in its part, are the object. Assumes nothing.
-- The other way round, records in order are those of the object that they are placed in: RecordLaws.
use mathlib.Core.Path.{◌≡◌, refl, ap}
use mathlib.Core.List.{List, [], ◌∷◌, ◌++◌, map, append-nil}
use mathlib.Core.Option.{Option, none, some, or_else}
use Prim.Native.Nat.{ℕ}
use Rattle.format.specs.ObjectFile.{Block, Label, LineBlock, Relocation, ObjectFile}
use Rattle.format.specs.Records.{Record, block, label, line_block, source, relocation, records_of, source_records, empty_object, placed, with_blocks, with_labels, with_lines, with_relocations}
use Rattle.format.proofs.ListLaws.{or-none}

-- the parts of two objects, one after the other
abbrev merged : ObjectFile → ObjectFile → ObjectFile
merged g h = record {
  blocks = g.blocks ++ h.blocks;
  labels = g.labels ++ h.labels;
  line_blocks = g.line_blocks ++ h.line_blocks;
  source = or_else g.source h.source;
  relocations = g.relocations ++ h.relocations;
}

placed-append : (xs ys : List Record) → placed (xs ++ ys) ≡ merged (placed xs) (placed ys)
unfolding placed empty_object or_else
placed-append [] ys = refl
placed-append (block b ∷ xs) ys = ap (λ (h : ObjectFile). with_blocks h (b ∷ h.blocks)) (placed-append xs ys)
placed-append (label l ∷ xs) ys = ap (λ (h : ObjectFile). with_labels h (l ∷ h.labels)) (placed-append xs ys)
placed-append (line_block l ∷ xs) ys = ap (λ (h : ObjectFile). with_lines h (l ∷ h.line_blocks) h.source) (placed-append xs ys)
placed-append (source s ∷ xs) ys = ap (λ (h : ObjectFile). with_lines h h.line_blocks (some s)) (placed-append xs ys)
placed-append (relocation r ∷ xs) ys = ap (λ (h : ObjectFile). with_relocations h (r ∷ h.relocations)) (placed-append xs ys)

placed-blocks : (xs : List Block) → placed (map block xs) ≡ with_blocks empty_object xs
unfolding placed empty_object
placed-blocks [] = refl
placed-blocks (x ∷ xs) = ap (λ (h : ObjectFile). with_blocks h (x ∷ h.blocks)) (placed-blocks xs)

placed-labels : (xs : List Label) → placed (map label xs) ≡ with_labels empty_object xs
unfolding placed empty_object
placed-labels [] = refl
placed-labels (x ∷ xs) = ap (λ (h : ObjectFile). with_labels h (x ∷ h.labels)) (placed-labels xs)

placed-lines : (xs : List LineBlock) → placed (map line_block xs) ≡ with_lines empty_object xs none
unfolding placed empty_object
placed-lines [] = refl
placed-lines (x ∷ xs) = ap (λ (h : ObjectFile). with_lines h (x ∷ h.line_blocks) h.source) (placed-lines xs)

placed_source : (o : Option (List ℕ)) → placed (source_records o) ≡ with_lines empty_object [] o
unfolding placed empty_object source_records
placed_source none = refl
placed_source (some s) = refl

placed-relocations : (xs : List Relocation) → placed (map relocation xs) ≡ with_relocations empty_object xs
unfolding placed empty_object
placed-relocations [] = refl
placed-relocations (x ∷ xs) = ap (λ (h : ObjectFile). with_relocations h (x ∷ h.relocations)) (placed-relocations xs)

pub placed-back : (h : ObjectFile) → placed (records_of h) ≡ h
unfolding records_of empty_object or_else
placed-back h =
    rw
    (placed-append, placed-append, placed-append, placed-append, placed-blocks, placed-labels, placed-lines, placed_source, placed-relocations)
    (simp (append-nil, or-none))
