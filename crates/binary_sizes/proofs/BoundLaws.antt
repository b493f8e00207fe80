-- All five parts together have no more words than the file has bytes. Assumes nothing.
use mathlib.Core.Path.{◌≡◌, refl, sym, ap, subst, ◌∙◌}
use mathlib.Core.Bool.{true, false}
use mathlib.Core.List.{List, [], ◌∷◌, ◌++◌, flat_map}
use Prim.Native.Nat.{ℕ, zero, suc, ◌+◌, ◌-◌, ◌≤◌}
use native.Mathlib.Omega.{arith}
use lib.ListN.{length, drop, length-append, length-drop}
use lib.Seq.{drop-drop}
use lib.Dec.{leb}
use borrow.Author.Tests.{ne_eqb, leb-true, leb-false}
use Rattle.format.specs.Basics.{is_some}
use Rattle.format.proofs.ListLaws.{by_test}
use Rattle.gather.specs.Places.{bytes_after, places, places_of}
use Rattle.binary_words.specs.RecordAt.{chunk_at, source_of, words_at, part_words}
use Rattle.binary_words.proofs.LengthLaws.{total, total_cons, skipped, words-few, all-few}
use Rattle.binary_words.proofs.SourceLaws.{chunks_length, chunks_cons, chunk_few, source-long, source-none}
use Rattle.binary_sizes.specs.ObjectWords.{source_words, relocation_words, keeps_relocations, object_words}

-- one record more: it has no more words than bytes, 3 more at most where it is cut, and then no record follows
one_more : (w k n rest : ℕ) → w ≤ 1 + k → w ≤ 4 + n → rest ≤ (n - k) + 3 → (n ≤ k → rest ≡ 0) → w + rest ≤ suc n + 3
one_more w k n rest a b c d =
    by_test (leb n k)
    (λ u. let z = d (leb-true n k u) in omega arith)
    (λ u. let z = leb-false n k u in omega arith)

module _ (s : List ℕ) where
  -- the words of the records of kinds 0, 1, 2 and 4 and the bytes of those of kind 3, from a place on
  abbrev jointly : ℕ → ℕ → List ℕ → ℕ
  jointly at k xs =
      total 0 s (places 0 at k xs) + total 1 s (places 1 at k xs) + total 2 s (places 2 at k xs)
      + chunks_length s (places 3 at k xs) + total 4 s (places 4 at k xs)

  all_skipped : (at k : ℕ) (xs : List ℕ) → length xs ≤ k → jointly at k xs ≡ 0
  unfolding flat_map
  all_skipped at k xs h =
      rw (skipped 0 at k xs h, skipped 1 at k xs h, skipped 2 at k xs h, skipped 3 at k xs h, skipped 4 at k xs h) refl

  module _ (at b : ℕ) (xs : List ℕ) (d : drop (at + 1) s ≡ xs)
      (more : jointly (at + 1) (bytes_after b xs) xs ≤ (length xs - bytes_after b xs) + 3) where
    with_record : (w : ℕ) → (w ≤ 1 + bytes_after b xs) × (w ≤ 4 + length xs)
        → w + jointly (at + 1) (bytes_after b xs) xs ≤ suc (length xs) + 3
    with_record w f =
        one_more w (bytes_after b xs) (length xs) (jointly (at + 1) (bytes_after b xs) xs) f.0 f.1 more
        (all_skipped (at + 1) (bytes_after b xs) xs)

    few_words : (length (words_at b s at) ≤ 1 + bytes_after b xs) × (length (words_at b s at) ≤ 4 + length xs)
    few_words = rw d at (words-few s at b)

    few_bytes : (length (chunk_at s at) ≤ bytes_after 3 xs) × (length (chunk_at s at) ≤ length xs)
    few_bytes =
        subst (λ (z : List ℕ). (length (chunk_at s at) ≤ bytes_after 3 z) × (length (chunk_at s at) ≤ length z)) d (chunk_few s at)

  joint : (xs : List ℕ) (at k : ℕ) → drop at s ≡ xs → jointly at k xs ≤ (length xs - k) + 3
  unfolding places flat_map
  joint [] at zero d = omega arith
  joint [] at (suc k) d = omega arith
  joint (b ∷ xs) at (suc k) d =
      let d' : drop (at + 1) s ≡ xs = sym (drop-drop 1 at s) ∙ ap (drop 1) d in
      omega (arith, joint xs (at + 1) k d')
  joint (zero ∷ xs) at zero d =
      let d' : drop (at + 1) s ≡ xs = sym (drop-drop 1 at s) ∙ ap (drop 1) d in
      let more = joint xs (at + 1) (bytes_after 0 xs) d' in
      let ps = places 0 (at + 1) (bytes_after 0 xs) xs in
      omega (arith, total_cons 0 s at ps, with_record at 0 xs d' more (length (words_at 0 s at)) (few_words at 0 xs d' more))
  joint ((suc zero) ∷ xs) at zero d =
      let d' : drop (at + 1) s ≡ xs = sym (drop-drop 1 at s) ∙ ap (drop 1) d in
      let more = joint xs (at + 1) (bytes_after 1 xs) d' in
      let ps = places 1 (at + 1) (bytes_after 1 xs) xs in
      omega (arith, total_cons 1 s at ps, with_record at 1 xs d' more (length (words_at 1 s at)) (few_words at 1 xs d' more))
  joint ((suc (suc zero)) ∷ xs) at zero d =
      let d' : drop (at + 1) s ≡ xs = sym (drop-drop 1 at s) ∙ ap (drop 1) d in
      let more = joint xs (at + 1) (bytes_after 2 xs) d' in
      let ps = places 2 (at + 1) (bytes_after 2 xs) xs in
      omega (arith, total_cons 2 s at ps, with_record at 2 xs d' more (length (words_at 2 s at)) (few_words at 2 xs d' more))
  joint ((suc (suc (suc zero))) ∷ xs) at zero d =
      let d' : drop (at + 1) s ≡ xs = sym (drop-drop 1 at s) ∙ ap (drop 1) d in
      let more = joint xs (at + 1) (bytes_after 3 xs) d' in
      let ps = places 3 (at + 1) (bytes_after 3 xs) xs in
      let few = few_bytes at 3 xs d' more in
      omega (arith, chunks_cons s at ps, with_record at 3 xs d' more (length (chunk_at s at)) (omega arith, omega arith))
  joint ((suc (suc (suc (suc zero)))) ∷ xs) at zero d =
      let d' : drop (at + 1) s ≡ xs = sym (drop-drop 1 at s) ∙ ap (drop 1) d in
      let more = joint xs (at + 1) (bytes_after 4 xs) d' in
      let ps = places 4 (at + 1) (bytes_after 4 xs) xs in
      omega (arith, total_cons 4 s at ps, with_record at 4 xs d' more (length (words_at 4 s at)) (few_words at 4 xs d' more))
  joint (suc (suc (suc (suc (suc b)))) ∷ xs) at zero d =
      let d' : drop (at + 1) s ≡ xs = sym (drop-drop 1 at s) ∙ ap (drop 1) d in
      let j = suc (suc (suc (suc (suc b)))) in
      rw (
        ne_eqb j 0 (λ e. omega arith),
        ne_eqb j 1 (λ e. omega arith),
        ne_eqb j 2 (λ e. omega arith),
        ne_eqb j 3 (λ e. omega arith),
        ne_eqb j 4 (λ e. omega arith),
      )
      (omega (arith, joint xs (at + 1) (bytes_after j xs) d'))

  -- a part has no more words than its records, of which later ones replace earlier ones
  part-within : (kind : ℕ) → length (part_words kind s) ≤ total kind s (places_of kind s)
  unfolding flat_map
  part-within kind = omega (arith, all-few kind s (places_of kind s) [])

  source-within : length (source_words s) ≤ 1 + chunks_length s (places_of 3 s)
  source-within =
      by_test (is_some (source_of s))
      (λ u. omega (arith, source-long s u))
      (λ u. omega (arith, source-none s u))

  pub parts-few : length (part_words 0 s) + length (part_words 1 s) + length (part_words 2 s) + length (source_words s) + length
      (part_words 4 s) ≤ length s + 4
  unfolding places_of
  parts-few =
      omega (arith, part-within 0, part-within 1, part-within 2, source-within, part-within 4, joint (drop 7 s) 7 0 refl, length-drop 7 s)

  -- all records together, with their source
  abbrev most : ℕ
  most = total 0 s (places_of 0 s) + total 1 s (places_of 1 s) + total 2 s (places_of 2 s) + total 4 s (places_of 4 s) + length (source_words s)

  pub most_few : most ≤ length s + 4
  unfolding places_of
  most_few = omega (arith, source-within, joint (drop 7 s) 7 0 refl, length-drop 7 s)

  -- the length of all parts
  length-joined : (a b c d e : List ℕ) → length (a ++ (b ++ (c ++ (d ++ e)))) ≡ length a + length b + length c + length d + length e
  length-joined a b c d e =
      omega (arith, length-append a (b ++ (c ++ (d ++ e))), length-append b (c ++ (d ++ e)), length-append c (d ++ e), length-append d e)

  abbrev before : ℕ
  before = length (part_words 0 s) + length (part_words 1 s) + length (part_words 2 s) + length (source_words s)

  pub length-kept : keeps_relocations s ≡ true → length (object_words s) ≡ before + length (part_words 4 s)
  unfolding object_words
  length-kept e = length-joined (part_words 0 s) (part_words 1 s) (part_words 2 s) (source_words s) (relocation_words s) ∙ rw e refl

  pub length_dropped : keeps_relocations s ≡ false → length (object_words s) ≡ before
  unfolding object_words
  length_dropped e = length-joined (part_words 0 s) (part_words 1 s) (part_words 2 s) (source_words s) (relocation_words s) ∙ rw e (omega arith)

  pub object-within : length (object_words s) ≤ most
  object-within =
      by_test (keeps_relocations s)
      (λ e. omega (arith, length-kept e, part-within 0, part-within 1, part-within 2, part-within 4))
      (λ e. omega (arith, length_dropped e, part-within 0, part-within 1, part-within 2))
