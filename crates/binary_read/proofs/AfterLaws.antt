-- What a binary file gives after its header, by the answers to the questions. Assumes nothing.
use mathlib.Core.Path.{◌≡◌, refl, sym, ap, ◌∙◌}
use mathlib.Core.Bool.{Bool, true, false, not, ◌||◌}
use mathlib.Core.List.{List, [], ◌∷◌, ◌++◌, map, flat_map, append_assoc}
use Prim.Native.Nat.{ℕ}
use lib.ListN.{drop}
use borrow.Author.Tests.{ne_eqb}
use Rattle.std.specs.Prelude.{if◌then◌else◌}
use Rattle.format.specs.Basics.{refused, given, is_empty, is_some}
use Rattle.format.specs.Tokens.{tokens}
use Rattle.format.specs.Sorted.{upsert, upsert_all, sorted}
use Rattle.format.specs.ObjectFile.{ObjectFile, apart}
use Rattle.format.specs.Records.{Record, block, label, line_block, relocation, records_of}
use Rattle.format.specs.Records.{source_records}
use Rattle.format.specs.Records.{ask_all, concluded, drop_stray_relocations, with_relocations}
use Rattle.format.specs.Words.{record_words, words_of}
use Rattle.format.specs.Binary.{record_at}
use Rattle.format.specs.Calls.{refusal_of}
use Rattle.format.proofs.ListLaws.{by_test, flat_map-append, flat_map-map}
use Rattle.format.proofs.Numbered.{given_by, refused_by, records_numbered}
use Rattle.gather.specs.Places.{places_of, key_at}
use Rattle.gather.proofs.WindowLaws.{by_order, upsert_below, upsert-same, upsert_above}
use Rattle.binary_words.specs.RecordAt.{block_at, label_at, line_block_at, relocation_at, in_order, source_of, object_at, words_at, part_words}
use Rattle.binary_words.proofs.PlacesRead.{gathered_object}
use Rattle.binary_read.specs.AfterHeader.{after_header, answer_of}
use Rattle.binary_sizes.specs.ObjectWords.{source_words, keeps_relocations, object_words}

-- THE WORDS, part by part
parts-words : (f : Record → List ℕ) (a b c d e : List Record) → flat_map f (a ++ b ++ c ++ d ++ e) ≡ flat_map f a
    ++ (flat_map f b ++ (flat_map f c ++ (flat_map f d ++ flat_map f e)))
parts-words f a b c d e =
    flat_map-append f (a ++ b ++ c ++ d) e
    ∙ ap (λ (z : List ℕ). z ++ flat_map f e)
    (flat_map-append f (a ++ b ++ c) d
    ∙ ap (λ (z : List ℕ). z ++ flat_map f d) (flat_map-append f (a ++ b) c ∙ ap (λ (z : List ℕ). z ++ flat_map f c) (flat_map-append f a b)))
    ∙ regroup (flat_map f a) (flat_map f b) (flat_map f c) (flat_map f d) (flat_map f e)
  where
    regroup : (v w x y z : List ℕ) → v ++ w ++ x ++ y ++ z ≡ v ++ (w ++ (x ++ (y ++ z)))
    regroup v w x y z = append_assoc (v ++ w ++ x) y z ∙ append_assoc (v ++ w) x (y ++ z) ∙ append_assoc v w (x ++ (y ++ z))

module _ (s : List ℕ) where
  abbrev words_with : List ℕ → List ℕ
  words_with rs = part_words 0 s ++ (part_words 1 s ++ (part_words 2 s ++ (source_words s ++ rs)))

  words_0 : flat_map record_words (map block (map (block_at s) (in_order 0 s))) ≡ part_words 0 s
  unfolding words_at
  words_0 =
      flat_map-map record_words block (map (block_at s) (in_order 0 s)) ∙ flat_map-map (λ b. record_words (block b)) (block_at s) (in_order 0 s)

  words_1 : flat_map record_words (map label (map (label_at s) (in_order 1 s))) ≡ part_words 1 s
  unfolding words_at
  words_1 =
      flat_map-map record_words label (map (label_at s) (in_order 1 s)) ∙ flat_map-map (λ b. record_words (label b)) (label_at s) (in_order 1 s)

  words_2 : flat_map record_words (map line_block (map (line_block_at s) (in_order 2 s))) ≡ part_words 2 s
  unfolding words_at
  words_2 =
      flat_map-map record_words line_block (map (line_block_at s) (in_order 2 s))
      ∙ flat_map-map (λ b. record_words (line_block b)) (line_block_at s) (in_order 2 s)

  words_4 : flat_map record_words (map relocation (map (relocation_at s) (in_order 4 s))) ≡ part_words 4 s
  unfolding words_at
  words_4 =
      flat_map-map record_words relocation (map (relocation_at s) (in_order 4 s))
      ∙ flat_map-map (λ b. record_words (relocation b)) (relocation_at s) (in_order 4 s)

  all_words : words_of (object_at s) ≡ words_with (part_words 4 s)
  unfolding words_of records_of object_at
  all_words =
      parts-words record_words (map block (map (block_at s) (in_order 0 s))) (map label (map (label_at s) (in_order 1 s)))
      (map line_block (map (line_block_at s) (in_order 2 s))) (source_records (source_of s)) (map relocation (map (relocation_at s) (in_order 4 s)))
      ∙ rw (words_0, words_1, words_2, words_4) refl

  words_without : words_of (with_relocations (object_at s) []) ≡ words_with []
  unfolding words_of records_of object_at flat_map
  words_without =
      parts-words record_words (map block (map (block_at s) (in_order 0 s))) (map label (map (label_at s) (in_order 1 s)))
      (map line_block (map (line_block_at s) (in_order 2 s))) (source_records (source_of s)) []
      ∙ rw (words_0, words_1, words_2) refl

  -- a sorted list is empty where the list is
  upsert-there : (kind a : ℕ) (ps : List ℕ) → is_empty (upsert (key_at kind s) a ps) ≡ false
  unfolding upsert is_empty
  upsert-there kind a [] = refl
  upsert-there kind a (p ∷ ps) =
      let key = key_at kind s in
      by_order (key a) (key p)
      (λ e. ap is_empty (upsert_below key a p ps e))
      (λ e. ap is_empty (upsert-same key a p ps e))
      (λ e. ap is_empty (upsert_above key a p ps e))

  sorted-there : (kind : ℕ) (ps acc : List ℕ) → is_empty acc ≡ false → is_empty (upsert_all (key_at kind s) ps acc) ≡ false
  unfolding upsert_all
  sorted-there kind [] acc e = e
  sorted-there kind (a ∷ ps) acc e = sorted-there kind ps (upsert (key_at kind s) a acc) (upsert-there kind a acc)

  sorted-empty : (kind : ℕ) (ps : List ℕ) → is_empty (sorted (key_at kind s) ps) ≡ is_empty ps
  unfolding upsert_all is_empty
  sorted-empty kind [] = refl
  sorted-empty kind (a ∷ ps) = sorted-there kind ps (upsert (key_at kind s) a []) (upsert-there kind a [])

  map-empty : {A : Type 0} (f : ℕ → A) (ps : List ℕ) → is_empty (map f ps) ≡ is_empty ps
  unfolding is_empty
  map-empty f [] = refl
  map-empty f (p ∷ ps) = refl

  -- whether they are stray
  stray : (h : ObjectFile) (a b : Bool) → is_empty h.labels ≡ a → is_some h.source ≡ b
      → drop_stray_relocations h ≡ (if not a || b then h else with_relocations h [])
  unfolding drop_stray_relocations
  stray h true true p q = rw (p, q) refl
  stray h true false p q = rw (p, q) refl
  stray h false true p q = rw p refl
  stray h false false p q = rw p refl

  no_labels : is_empty (object_at s).labels ≡ is_empty (places_of 1 s)
  unfolding object_at
  no_labels = map-empty (label_at s) (in_order 1 s) ∙ sorted-empty 1 (places_of 1 s)

  kept-words : words_of (drop_stray_relocations (object_at s)) ≡ object_words s
  unfolding object_words keeps_relocations object_at
  kept-words =
      ap words_of (stray (object_at s) (is_empty (places_of 1 s)) (is_some (source_of s)) no_labels refl)
      ∙ by_test (not (is_empty (places_of 1 s)) || is_some (source_of s)) (λ u. rw u all_words) (λ u. rw u words_without)

-- THE OUTCOME
module _ (s : List ℕ) (n : ℕ) (e : n ≡ refusal_of (tokens record_at 0 (drop 7 s))) where
  pub after-refused : (n ≡ 0 → ⊥) → after_header s ≡ refused n
  unfolding after_header
  after-refused h = rw (refused_by (tokens record_at 0 (drop 7 s)) n (sym e) h) refl

  pub after-apart : n ≡ 0 → apart (object_at s).line_blocks ≡ false → after_header s ≡ refused 15
  unfolding after_header concluded ask_all
  after-apart z t =
      let g = given_by 9 (tokens record_at 0 (drop 7 s)) (records_numbered 0 (drop 7 s)) (sym e ∙ z) in
      rw (g.1, gathered_object s g.0 g.1, t) refl

  pub after-given : n ≡ 0 → apart (object_at s).line_blocks ≡ true → after_header s ≡ given (object_words s)
  unfolding after_header concluded ask_all
  after-given z t =
      let g = given_by 9 (tokens record_at 0 (drop 7 s)) (records_numbered 0 (drop 7 s)) (sym e ∙ z) in
      rw (g.1, gathered_object s g.0 g.1, t) (ap given (kept-words s))

-- what the number of a refusal says
module _ (n : ℕ) (words : List ℕ) where
  pub answer_refused : (n ≡ 0 → ⊥) → answer_of n words ≡ refused n
  unfolding answer_of
  answer_refused h = rw (ne_eqb n 0 h) refl

  pub answer_given : n ≡ 0 → answer_of n words ≡ given words
  unfolding answer_of
  answer_given z = rw z refl
