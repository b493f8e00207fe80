-- Sums over the elements of a list, and the weight of an object by those of its elements: what an insertion or a record adds to it; and how
-- many words an object has. Assumes nothing.
use mathlib.Core.Path.{◌≡◌, refl}
use mathlib.Core.Bool.{◌&&◌, not}
use mathlib.Core.List.{List, [], ◌∷◌, ◌++◌, map, flat_map}
use mathlib.Core.Option.{Option, none, some}
use Prim.Native.Nat.{ℕ, zero, suc, ◌+◌, ◌/◌, ◌≤◌, Ordering}
use native.Mathlib.Omega.{arith}
use lib.ListN.{length, take, drop, length-append}
use Rattle.format.specs.Basics.{is_empty, is_some}
use Rattle.format.specs.Sorted.{by_ordering, order, upsert}
use Rattle.format.specs.ObjectFile.{Block, Label, LineBlock, Relocation, ObjectFile, block_key, label_key, line_key, relocation_key, source_text}
use Rattle.format.specs.Records.{Record, block, label, line_block, source, relocation, source_records, records_of, put_record, drop_stray_relocations}
use Rattle.format.specs.Records.{Question, ask_all, concluded}
use Rattle.format.specs.Words.{record_words, words_of}
use Rattle.format.proofs.Outcomes.{by_if, Gives, gives_bind, anything}
use Rattle.format.proofs.Counts.{block-length, label-length, line-length, source-length, relocation-length}

-- the weights of all elements, added up
abbrev pub total : {A : Type 0} → (A → ℕ) → List A → ℕ
total f [] = 0
total f (x ∷ xs) = f x + total f xs

module _ {A : Type 0} (f : A → ℕ) where
  pub total_parts : (n : ℕ) (xs : List A) → total f (take n xs) + total f (drop n xs) ≡ total f xs
  total_parts zero xs = omega arith
  total_parts (suc n) [] = refl
  total_parts (suc n) (x ∷ xs) = omega (arith, total_parts n xs)

  -- inserted or replaced, an element adds at most its own weight
  pub total_upsert : (key : A → List ℕ) (a : A) (xs : List A) → total f (upsert key a xs) ≤ f a + total f xs
  unfolding upsert
  total_upsert key a [] = omega arith
  total_upsert key a (x ∷ xs) = go (order (key a) (key x)) (total_upsert key a xs)
    where
      go : (o : Ordering) → total f (upsert key a xs) ≤ f a + total f xs
          → total f (by_ordering o (a ∷ x ∷ xs) (a ∷ xs) (x ∷ upsert key a xs)) ≤ f a + total f (x ∷ xs)
      go Ordering.lt i = omega arith
      go Ordering.eq i = omega arith
      go Ordering.gt i = omega arith

  -- of no element more
  pub total_few : (g : A → ℕ) → ((x : A) → f x ≤ g x) → (xs : List A) → total f xs ≤ total g xs
  total_few g few [] = omega arith
  total_few g few (x ∷ xs) = omega (arith, few x, total_few g few xs)

  pub total_same : (g : A → ℕ) → ((x : A) → f x ≡ g x) → (xs : List A) → total f xs ≡ total g xs
  total_same g same [] = refl
  total_same g same (x ∷ xs) = omega (arith, same x, total_same g same xs)

  pub total_append : (xs ys : List A) → total f (xs ++ ys) ≡ total f xs + total f ys
  total_append [] ys = omega arith
  total_append (x ∷ xs) ys = omega (arith, total_append xs ys)

  pub total_map : {B : Type 0} (g : B → A) (xs : List B) → total f (map g xs) ≡ total (λ x. f (g x)) xs
  total_map g [] = refl
  total_map g (x ∷ xs) = omega (arith, total_map g xs)

-- the length of lists that are joined
pub total_length : {A B : Type 0} (g : A → List B) (xs : List A) → length (flat_map g xs) ≡ total (λ x. length (g x)) xs
unfolding flat_map
total_length g [] = refl
total_length g (x ∷ xs) = omega (arith, length-append (g x) (flat_map g xs), total_length g xs)

-- the records of an object, part by part
pub total_records : (f : Record → ℕ) (h : ObjectFile)
    → total f (records_of h)
    ≡ total (λ b. f (block b)) h.blocks + total (λ l. f (label l)) h.labels + total (λ l. f (line_block l)) h.line_blocks
    + total f (source_records h.source) + total (λ r. f (relocation r)) h.relocations
unfolding records_of
total_records f h =
    let bs : List Record = map block h.blocks in
    let ls : List Record = map label h.labels in
    let ms : List Record = map line_block h.line_blocks in
    let ss : List Record = source_records h.source in
    let rs : List Record = map relocation h.relocations in
    omega (
      arith,
      total_append f (bs ++ ls ++ ms ++ ss) rs,
      total_append f (bs ++ ls ++ ms) ss,
      total_append f (bs ++ ls) ms,
      total_append f bs ls,
      total_map f block h.blocks,
      total_map f label h.labels,
      total_map f line_block h.line_blocks,
      total_map f relocation h.relocations,
    )

-- THE WEIGHT OF AN OBJECT

-- by those of its elements and of its source
pub record Weights : Type 0 where
  pub of_block : Block → ℕ
  pub of_label : Label → ℕ
  pub of_lines : LineBlock → ℕ
  pub of_source : Option (List ℕ) → ℕ
  pub of_relocation : Relocation → ℕ

abbrev pub weight : Weights → ObjectFile → ℕ
weight w h =
    total w.of_block h.blocks + total w.of_label h.labels + total w.of_lines h.line_blocks + w.of_source h.source
    + total w.of_relocation h.relocations

module _ (w : Weights) (h : ObjectFile) where
  -- a record adds at most its own weight, and one that makes the source exist or longer what that adds
  pub block_adds : (b : Block) → weight w (put_record h (block b)) ≤ weight w h + w.of_block b
  unfolding put_record
  block_adds b = omega (arith, total_upsert w.of_block block_key b h.blocks)

  pub label_adds : (l : Label) → weight w (put_record h (label l)) ≤ weight w h + w.of_label l
  unfolding put_record
  label_adds l = omega (arith, total_upsert w.of_label label_key l h.labels)

  pub line_adds : (l : LineBlock)
      → weight w (put_record h (line_block l)) + w.of_source h.source ≤ weight w h + w.of_lines l + w.of_source (some (source_text h.source))
  unfolding put_record
  line_adds l = omega (arith, total_upsert w.of_lines line_key l h.line_blocks)

  pub source_adds : (s : List ℕ)
      → weight w (put_record h (source s)) + w.of_source h.source ≡ weight w h + w.of_source (some (source_text h.source ++ s))
  unfolding put_record
  source_adds s = omega arith

  pub relocation_adds : (r : Relocation) → weight w (put_record h (relocation r)) ≤ weight w h + w.of_relocation r
  unfolding put_record
  relocation_adds r = omega (arith, total_upsert w.of_relocation relocation_key r h.relocations)

  -- dropping relocations adds nothing
  dropped_few : weight w (drop_stray_relocations h) ≤ weight w h
  unfolding drop_stray_relocations
  dropped_few =
      by_if (λ (g : ObjectFile). weight w g ≤ weight w h) (is_empty h.labels && not (is_some h.source)) _ _
      (λ _. omega arith) (λ _. omega arith)

  pub concluded-few : (qs : List Question) → Gives (λ g. weight w g ≤ weight w h) (concluded qs h)
  unfolding concluded
  concluded-few qs = gives_bind _ (λ _. Unit {0}) (ask_all qs h) _ (anything (ask_all qs h)) λ _ _. dropped_few

-- THE WORDS OF AN OBJECT are its weight by how many words each record has
abbrev pub source_count : Option (List ℕ) → ℕ
source_count none = 0
source_count (some s) = 1 + (length s + 2) / 3

abbrev pub word_counts : Weights
word_counts = record {
  of_block = λ b. 1 + length b.words;
  of_label = λ l. 4 + (length l.name + 2) / 3;
  of_lines = λ l. 4 + length l.addresses;
  of_source = source_count;
  of_relocation = λ r. 1 + (length r.name + 2) / 3;
}

source-counted : (o : Option (List ℕ)) → total (λ r. length (record_words r)) (source_records o) ≡ source_count o
unfolding source_records
source-counted none = refl
source-counted (some s) = omega (arith, source-length s)

pub words-counted : (h : ObjectFile) → length (words_of h) ≡ weight word_counts h
unfolding words_of
words-counted h =
    omega (
      arith,
      total_length record_words (records_of h),
      total_records (λ r. length (record_words r)) h,
      total_same (λ b. length (record_words (block b))) word_counts.of_block block-length h.blocks,
      total_same (λ l. length (record_words (label l))) word_counts.of_label label-length h.labels,
      total_same (λ l. length (record_words (line_block l))) word_counts.of_lines line-length h.line_blocks,
      source-counted h.source,
      total_same (λ r. length (record_words (relocation r))) word_counts.of_relocation relocation-length h.relocations,
    )
