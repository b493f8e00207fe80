-- The source of a file: whether it exists, and how long it is. Assumes nothing.
use mathlib.Core.Path.{◌≡◌, refl, sym, ap, subst, ◌∙◌}
use mathlib.Core.Bool.{Bool, true, false, not, ◌&&◌}
use mathlib.Core.List.{List, [], ◌∷◌, flat_map}
use mathlib.Core.Option.{none, some}
use Prim.Native.Nat.{ℕ, zero, suc, ◌+◌, ◌-◌, ◌/◌, ◌≤◌}
use native.Mathlib.Omega.{arith}
use lib.ListN.{length, drop, length-append, length-take, length-drop}
use lib.Seq.{drop-drop}
use lib.Dec.{eqb, leb}
use borrow.Author.Tests.{eqb-true, leb-true, leb-false}
use Rattle.std.specs.Prelude.{if◌then◌else◌}
use Rattle.format.specs.Basics.{is_empty, is_some}
use Rattle.format.specs.Records.{source_records}
use Rattle.format.specs.Words.{record_words, text_words}
use Rattle.format.specs.Binary.{number_at}
use Rattle.format.proofs.ListLaws.{by_test}
use Rattle.gather.specs.Places.{bytes_after, places, places_of}
use Rattle.gather.proofs.WalkLaws.{after_3}
use Rattle.binary_words.specs.RecordAt.{chunk_at, source_of}
use Rattle.binary_words.proofs.LengthLaws.{skipped}
use Rattle.format.proofs.Counts.{text-length}

abbrev pub chunks_length : List ℕ → List ℕ → ℕ
chunks_length s ps = length (flat_map (chunk_at s) ps)

pub chunks_cons : (s : List ℕ) (p : ℕ) (ps : List ℕ) → chunks_length s (p ∷ ps) ≡ length (chunk_at s p) + chunks_length s ps
unfolding flat_map
chunks_cons s p ps = length-append (chunk_at s p) (flat_map (chunk_at s) ps)

pub chunks_none : (s : List ℕ) → chunks_length s [] ≡ 0
unfolding flat_map
chunks_none s = refl

module _ (s : List ℕ) where
  pub chunk_few : (p : ℕ) → (length (chunk_at s p) ≤ bytes_after 3 (drop (p + 1) s)) × (length (chunk_at s p) ≤ length (drop (p + 1) s))
  chunk_few p =
      let l = length-take (number_at (p + 1) 8 s) (drop (p + 9) s) in
      let d = length-drop (p + 9) s in
      let e = length-drop (p + 1) s in
      (omega (arith, after_3 s p 3 refl), omega arith)

  chunks_few : (xs : List ℕ) (at k : ℕ) → drop at s ≡ xs → chunks_length s (places 3 at k xs) ≤ length xs - k
  unfolding places flat_map
  chunks_few [] at zero d = omega arith
  chunks_few [] at (suc k) d = omega arith
  chunks_few (b ∷ xs) at (suc k) d =
      let d' : drop (at + 1) s ≡ xs = sym (drop-drop 1 at s) ∙ ap (drop 1) d in
      omega (arith, chunks_few xs (at + 1) k d')
  chunks_few (b ∷ xs) at zero d =
      let d' : drop (at + 1) s ≡ xs = sym (drop-drop 1 at s) ∙ ap (drop 1) d in
      let more = chunks_few xs (at + 1) (bytes_after b xs) d' in
      let ps = places 3 (at + 1) (bytes_after b xs) xs in
      by_test (eqb b 3)
      (λ u. let e : b ≡ 3 = eqb-true b 3 u in
      let f : (length (chunk_at s at) ≤ bytes_after 3 xs) × (length (chunk_at s at) ≤ length xs) = subst (λ (z : List ℕ). (length (chunk_at s at) ≤ bytes_after 3 z) × (length (chunk_at s at) ≤ length z)) d' (chunk_few at) in
      let g : bytes_after b xs ≡ bytes_after 3 xs = ap (λ (j : ℕ). bytes_after j xs) e in
      rw u (by_test (leb (bytes_after b xs) (length xs))
      (λ v. let h = leb-true (bytes_after b xs) (length xs) v in omega (arith, chunks_cons s at ps))
      (λ v. let h = leb-false (bytes_after b xs) (length xs) v in
      let z : chunks_length s ps ≡ 0 = ap (chunks_length s) (skipped 3 (at + 1) (bytes_after b xs) xs (omega arith)) in
      omega (arith, chunks_cons s at ps))))
      (λ u. rw u (omega arith))

  pub all_chunks_few : chunks_length s (places_of 3 s) ≤ length s
  unfolding places_of
  all_chunks_few = omega (arith, chunks_few (drop 7 s) 7 0 refl, length-drop 7 s)

  -- whether it exists
  pub source-yes : not (is_empty (places_of 2 s)) ≡ true → is_some (source_of s) ≡ true
  unfolding source_of is_some
  source-yes e = go (is_empty (places_of 2 s)) (is_empty (places_of 3 s)) e
    where
      go : (a b : Bool) → not a ≡ true → is_some (if a && b then none else some (flat_map (chunk_at s) (places_of 3 s))) ≡ true
      go false b e = refl
      go true b e = let z : ◌≡◌ {A = ℕ} 0 1 = cc in absurd (omega arith)

  pub source_else : not (is_empty (places_of 2 s)) ≡ false → not (is_empty (places_of 3 s)) ≡ is_some (source_of s)
  unfolding source_of is_some
  source_else e = go (is_empty (places_of 2 s)) (is_empty (places_of 3 s)) e
    where
      go : (a b : Bool) → not a ≡ false → not b ≡ is_some (if a && b then none else some (flat_map (chunk_at s) (places_of 3 s)))
      go true true e = refl
      go true false e = refl
      go false b e = let z : ◌≡◌ {A = ℕ} 0 1 = cc in absurd (omega arith)

  -- how long it is
  pub source-long : is_some (source_of s) ≡ true → length (flat_map record_words (source_records (source_of s))) ≡ 1 + (chunks_length s (places_of 3 s) + 2) / 3
  unfolding source_of is_some source_records record_words flat_map
  source-long e = go (is_empty (places_of 2 s) && is_empty (places_of 3 s)) e
    where
      go : (t : Bool) → is_some (if t then none else some (flat_map (chunk_at s) (places_of 3 s))) ≡ true
          → length (flat_map record_words (source_records (if t then none else some (flat_map (chunk_at s) (places_of 3 s))))) ≡ 1 + (chunks_length s (places_of 3 s) + 2) / 3
      go true e = let z : ◌≡◌ {A = ℕ} 0 1 = cc in absurd (omega arith)
      go false e = let ws = flat_map (chunk_at s) (places_of 3 s) in omega (arith, length-append (text_words ws) [], text-length ws)

  pub source-none : is_some (source_of s) ≡ false → length (flat_map record_words (source_records (source_of s))) ≡ 0
  unfolding source_of is_some source_records flat_map
  source-none e = go (is_empty (places_of 2 s) && is_empty (places_of 3 s)) e
    where
      go : (t : Bool) → is_some (if t then none else some (flat_map (chunk_at s) (places_of 3 s))) ≡ false
          → length (flat_map record_words (source_records (if t then none else some (flat_map (chunk_at s) (places_of 3 s))))) ≡ 0
      go true e = refl
      go false e = let z : ◌≡◌ {A = ℕ} 0 1 = cc in absurd (omega arith)
