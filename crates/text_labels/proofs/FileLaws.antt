-- Of a text file that reads, the words of its object's blocks, labels and relocations are those that the rows' writers put. Assumes nothing.
use mathlib.Core.Path.{◌≡◌, refl, sym, ap, ◌∙◌}
use mathlib.Core.Bool.{Bool, true, false, ◌&&◌, not}
use mathlib.Core.List.{List, [], map, flat_map}
use Prim.Native.Nat.{ℕ}
use Rattle.std.specs.Prelude.{if◌then◌else◌}
use Rattle.format.specs.Basics.{is_empty, is_some, given}
use Rattle.format.specs.Sorted.{sorted}
use Rattle.format.specs.Utf8.{trim}
use Rattle.format.specs.ObjectFile.{ObjectFile}
use Rattle.format.specs.Records.{Record, block, label, relocation}
use Rattle.format.specs.TextReader.{text_object}
use Rattle.format.specs.Words.{record_words}
use Rattle.format.proofs.ListLaws.{flat_map-map}
use Rattle.format.proofs.Outcomes.{gives}
use Rattle.text_rows.specs.Rows.{row_key, rows_of}
use Rattle.text_rows.proofs.FileLaws.{PartsOf, text-parts}
use Rattle.text_labels.specs.Labels.{labels_of}

abbrev joined : List (List ℕ) → List ℕ  -- parts one after the other
joined ps = flat_map (λ p. p) ps

-- the words of rows, one after the other
rows-joined : (rs : List Record) → flat_map record_words rs ≡ joined (map record_words rs)
rows-joined rs = sym (flat_map-map (λ (p : List ℕ). p) record_words rs)

-- the words that each part of a file's object has, from its rows
pub record WordsOf (t : List ℕ) (h : ObjectFile) : Type 0 where
  pub blocks : flat_map record_words (map block h.blocks) ≡ joined (map record_words (sorted row_key (rows_of 0 t)))
  pub labels : flat_map record_words (map label h.labels) ≡ joined (map record_words (map label (labels_of t)))
  pub relocations : flat_map record_words (map relocation h.relocations)
      ≡ (if is_empty h.labels && not (is_some h.source) then [] else joined (map record_words (sorted row_key (rows_of 2 t))))

pub text-words : (s : List ℕ) (h : ObjectFile) → text_object s ≡ given h → WordsOf (trim s) h
unfolding labels_of flat_map
text-words s h e =
    let p : PartsOf (trim s) h = gives (PartsOf (trim s)) (text_object s) h (text-parts s) e in
    record {
      blocks = ap (flat_map record_words) p.blocks ∙ rows-joined (sorted row_key (rows_of 0 (trim s)));
      labels = rows-joined (map label h.labels) ∙ ap (λ ls. joined (map record_words (map label ls))) p.labels;
      relocations = ap (flat_map record_words) p.relocations ∙ drops (is_empty h.labels && not (is_some h.source)) (sorted row_key (rows_of 2 (trim s)));
    }
  where
    drops : (b : Bool) (rs : List Record) → flat_map record_words (if b then [] else rs) ≡ (if b then [] else joined (map record_words rs))
    drops true rs = refl
    drops false rs = rows-joined rs
