-- How many words records have, and that they are no more than the bytes. Assumes nothing.
use mathlib.Core.Path.{◌≡◌, refl, sym, ap, ◌∙◌}
use mathlib.Core.List.{List, [], ◌∷◌, ◌++◌, flat_map}
use mathlib.Core.Option.{some}
use Prim.Native.Nat.{ℕ, zero, suc, ◌+◌, ◌-◌, ◌*◌, ◌/◌, ◌≤◌, ◌<◌}
use native.Mathlib.Omega.{arith}
use lib.ListN.{length, take, drop, get_or, length-append, length-map, length-take, length-drop, take-append-drop, drop_of_length-le}
use lib.Seq.{drop-cons, drop-drop, take_all}
use lib.Dec.{eqb, leb}
use borrow.Author.Tests.{ne_eqb, eqb-true, eqb-false, leb-true, leb-false}
use Rattle.format.specs.Digits.{digits_of}
use Rattle.format.specs.Sorted.{upsert, upsert_all}
use Rattle.format.specs.Words.{number_words, record_words, memory_word}
use Rattle.format.specs.Binary.{bytes_at, number_at, memories_from, addresses_from}
use Rattle.format.proofs.ListLaws.{by_test, flat_map-length}
use Rattle.format.proofs.Counts.{memories_length, addresses-length, text-length}
use Rattle.gather.specs.Places.{bytes_after, places, places_of, key_at}
use Rattle.gather.specs.Order.{HandsOut}
use Rattle.gather.proofs.WindowLaws.{by_order, upsert_below, upsert-same, upsert_above}
use Rattle.gather.proofs.WalkLaws.{after_0, after_1, after_2, after_4}
use Rattle.gather.proofs.OrderLaws.{held_front}
use Rattle.binary_words.specs.RecordAt.{words_at, part_words, body_length}

-- the words of the record of a kind, by the length of its body
module _ (s : List ℕ) (p : ℕ) where
  pub length_0 : length (words_at 0 s p) ≡ 1 + body_length 0 s p / 3
  unfolding words_at body_length record_words
  length_0 = let b = bytes_at (p + 5) (3 * number_at (p + 3) 2 s) s in omega (arith, length-map (memories_from b) memory_word, memories_length b)

  pub length_1 : length (words_at 1 s p) ≡ 4 + (body_length 1 s p + 2) / 3
  unfolding words_at body_length record_words number_words digits_of
  length_1 = let b = bytes_at (p + 20) (number_at (p + 12) 8 s) s in omega (arith, text-length b)

  pub length_2 : length (words_at 2 s p) ≡ 4 + body_length 2 s p / 2
  unfolding words_at body_length record_words number_words digits_of
  length_2 = let b = bytes_at (p + 11) (2 * number_at (p + 9) 2 s) s in omega (arith, length-map (addresses_from b) (λ a. memory_word (some a)), addresses-length b)

  pub length_4 : length (words_at 4 s p) ≡ 1 + (body_length 4 s p + 2) / 3
  unfolding words_at body_length record_words
  length_4 = let b = bytes_at (p + 11) (number_at (p + 3) 8 s) s in omega (arith, text-length b)

  pub length-other : (k : ℕ) → (k ≡ 0 → ⊥) → (k ≡ 1 → ⊥) → (k ≡ 2 → ⊥) → (k ≡ 4 → ⊥) → length (words_at k s p) ≡ 0
  unfolding words_at
  length-other k a b c d = rw (ne_eqb k 0 a, ne_eqb k 1 b, ne_eqb k 2 c, ne_eqb k 4 d) refl

  -- a record has no more words than bytes, its kind byte included; where it is cut, 3 more at most
  abbrev behind : List ℕ
  behind = drop (p + 1) s

  abbrev pub Few : ℕ → Type 0
  Few k = (length (words_at k s p) ≤ 1 + bytes_after k behind) × (length (words_at k s p) ≤ 4 + length behind)

  few_0 : Few 0
  unfolding body_length
  few_0 =
      let l = length-take (3 * number_at (p + 3) 2 s) (drop (p + 5) s) in
      let d = length-drop (p + 5) s in
      let e = length-drop (p + 1) s in
      (omega (arith, length_0, after_0 s p 0 refl), omega (arith, length_0, after_0 s p 0 refl))

  few_1 : Few 1
  unfolding body_length
  few_1 =
      let l = length-take (number_at (p + 12) 8 s) (drop (p + 20) s) in
      let d = length-drop (p + 20) s in
      let e = length-drop (p + 1) s in
      (omega (arith, length_1, after_1 s p 1 refl), omega (arith, length_1, after_1 s p 1 refl))

  few_2 : Few 2
  unfolding body_length
  few_2 =
      let l = length-take (2 * number_at (p + 9) 2 s) (drop (p + 11) s) in
      let d = length-drop (p + 11) s in
      let e = length-drop (p + 1) s in
      (omega (arith, length_2, after_2 s p 2 refl), omega (arith, length_2, after_2 s p 2 refl))

  few_4 : Few 4
  unfolding body_length
  few_4 =
      let l = length-take (number_at (p + 3) 8 s) (drop (p + 11) s) in
      let d = length-drop (p + 11) s in
      let e = length-drop (p + 1) s in
      (omega (arith, length_4, after_4 s p 4 refl), omega (arith, length_4, after_4 s p 4 refl))

  pub words-few : (k : ℕ) → Few k
  words-few k =
      by_test (eqb k 0)
      (λ u. let e = eqb-true k 0 u in rw e few_0)
      (λ a. by_test (eqb k 1)
      (λ u. let e = eqb-true k 1 u in rw e few_1)
      (λ b. by_test (eqb k 2)
      (λ u. let e = eqb-true k 2 u in rw e few_2)
      (λ c. by_test (eqb k 4)
      (λ u. let e = eqb-true k 4 u in rw e few_4)
      (λ d. let z = length-other k (eqb-false k 0 a) (eqb-false k 1 b) (eqb-false k 2 c) (eqb-false k 4 d) in (omega arith, omega arith)))))

-- ALL RECORDS of a kind
abbrev pub total : ℕ → List ℕ → List ℕ → ℕ
total kind s ps = length (flat_map (words_at kind s) ps)

pub total_cons : (kind : ℕ) (s : List ℕ) (p : ℕ) (ps : List ℕ) → total kind s (p ∷ ps) ≡ length (words_at kind s p) + total kind s ps
unfolding flat_map
total_cons kind s p ps = length-append (words_at kind s p) (flat_map (words_at kind s) ps)

pub total_append : (kind : ℕ) (s ps qs : List ℕ) → total kind s (ps ++ qs) ≡ total kind s ps + total kind s qs
total_append kind s ps qs = flat_map-length (words_at kind s) ps qs

-- a number above those of the kinds is no kind's: its records, if there were any, have no words
pub no_words : (kind : ℕ) (s ps : List ℕ) → 4 < kind → total kind s ps ≡ 0
unfolding flat_map
no_words kind s [] h = refl
no_words kind s (p ∷ ps) h =
    omega (
      arith,
      total_cons kind s p ps,
      no_words kind s ps h,
      length-other s p kind (λ e. omega arith) (λ e. omega arith) (λ e. omega arith) (λ e. omega arith),
    )

pub skipped : (kind at k : ℕ) (xs : List ℕ) → length xs ≤ k → places kind at k xs ≡ []
unfolding places
skipped kind at zero [] h = refl
skipped kind at (suc k) [] h = refl
skipped kind at zero (x ∷ xs) h = absurd (let z : ⊥ = omega arith in z)
skipped kind at (suc k) (x ∷ xs) h = skipped kind (at + 1) k xs (omega arith)

module _ (kind : ℕ) (s : List ℕ) where
  places-few : (xs : List ℕ) (at k : ℕ) → drop at s ≡ xs → total kind s (places kind at k xs) ≤ (length xs - k) + 3
  unfolding places flat_map
  places-few [] at zero d = omega arith
  places-few [] at (suc k) d = omega arith
  places-few (b ∷ xs) at (suc k) d =
      let d' : drop (at + 1) s ≡ xs = sym (drop-drop 1 at s) ∙ ap (drop 1) d in
      omega (arith, places-few xs (at + 1) k d')
  places-few (b ∷ xs) at zero d =
      let d' : drop (at + 1) s ≡ xs = sym (drop-drop 1 at s) ∙ ap (drop 1) d in
      let more = places-few xs (at + 1) (bytes_after b xs) d' in
      let ps = places kind (at + 1) (bytes_after b xs) xs in
      by_test (eqb b kind)
      (λ u. let e : b ≡ kind = eqb-true b kind u in
      let f : (length (words_at kind s at) ≤ 1 + bytes_after kind xs) × (length (words_at kind s at) ≤ 4 + length xs) = rw d' at (words-few s at kind) in
      let g : bytes_after b xs ≡ bytes_after kind xs = ap (λ (j : ℕ). bytes_after j xs) e in
      rw u (by_test (leb (bytes_after b xs) (length xs))
      (λ v. let h = leb-true (bytes_after b xs) (length xs) v in omega (arith, total_cons kind s at ps))
      (λ v. let h = leb-false (bytes_after b xs) (length xs) v in
      let z : total kind s ps ≡ 0 = ap (total kind s) (skipped kind (at + 1) (bytes_after b xs) xs (omega arith)) in
      omega (arith, total_cons kind s at ps))))
      (λ u. rw u (omega arith))

  upsert-few : (a : ℕ) (ps : List ℕ) → total kind s (upsert (key_at kind s) a ps) ≤ length (words_at kind s a) + total kind s ps
  unfolding upsert
  upsert-few a [] = omega (arith, total_cons kind s a [])
  upsert-few a (p ∷ ps) =
      let key = key_at kind s in
      by_order (key a) (key p)
      (λ e. rw (upsert_below key a p ps e) (omega (arith, total_cons kind s a (p ∷ ps))))
      (λ e. rw (upsert-same key a p ps e) (omega (arith, total_cons kind s a ps, total_cons kind s p ps)))
      (λ e. rw (upsert_above key a p ps e) (omega (arith, upsert-few a ps, total_cons kind s p (upsert key a ps), total_cons kind s p ps)))

  pub all-few : (ps acc : List ℕ) → total kind s (upsert_all (key_at kind s) ps acc) ≤ total kind s ps + total kind s acc
  unfolding upsert_all flat_map
  all-few [] acc = omega arith
  all-few (a ∷ ps) acc = omega (arith, all-few ps (upsert (key_at kind s) a acc), upsert-few a acc, total_cons kind s a ps)

  pub records_few : total kind s (places_of kind s) ≤ length s + 3
  unfolding places_of
  records_few = omega (arith, places-few (drop 7 s) 7 0 refl, length-drop 7 s)

  pub total_none : total kind s [] ≡ 0
  unfolding flat_map
  total_none = refl

  -- no more words than bytes, and 3
  pub part-few : length (part_words kind s) ≤ length s + 3
  unfolding places_of flat_map
  part-few = omega (arith, all-few (places_of kind s) [], places-few (drop 7 s) 7 0 refl, length-drop 7 s)

-- A WINDOW handed out: its words and those of what is left
module _ (kind : ℕ) (s found now ps rest : List ℕ) (n : ℕ) (h : HandsOut ps found now n rest) where
  front : take n now ≡ take (length found) ps
  front = held_front (take (length found) ps) found now n h.windowed

  pub handed_size : n ≤ length found
  handed_size = omega (arith, h.windowed.count, length-take (length found) ps)

  pub handed_long : length now ≡ length found
  handed_long = omega (arith, ap length h.windowed.holds, length-append (take (length found) ps) (drop n found), length-drop n found, h.windowed.count, handed_size)

  joined : take (length found) ps ++ rest ≡ ps
  joined =
      by_test (leb (length found) (length ps))
      (λ u. let k = leb-true (length found) (length ps) u in let e : n ≡ length found = omega (arith, h.windowed.count, length-take (length found) ps) in
      rw (h.others, e) (take-append-drop (length found) ps))
      (λ u. let k = leb-false (length found) (length ps) u in let e : n ≡ length ps = omega (arith, h.windowed.count, length-take (length found) ps) in
      let x : take n ps ≡ take (length found) ps = take_all n ps (omega arith) ∙ sym (take_all (length found) ps (omega arith)) in
      rw (h.others, sym x) (take-append-drop n ps))

  pub handed_joined : take n now ++ rest ≡ ps
  handed_joined = ap (λ (z : List ℕ). z ++ rest) front ∙ joined

  pub handed_total : total kind s ps ≡ total kind s (take n now) + total kind s rest
  handed_total = ap (total kind s) (sym joined) ∙ total_append kind s (take (length found) ps) rest ∙ ap (λ (z : List ℕ). total kind s z + total kind s rest) (sym front)

  -- a window that is not full is the last
  pub handed_none : n < length found → rest ≡ []
  handed_none l =
      let e : length ps ≤ n = omega (arith, h.windowed.count, length-take (length found) ps) in
      h.others ∙ drop_of_length-le ps {i = n} e

  pub handed_last : n < length found → total kind s rest ≡ 0
  unfolding flat_map
  handed_last l = ap (total kind s) (handed_none l)

  pub handed_less : 0 < n → length rest < length ps
  handed_less l = omega (arith, ap length h.others, length-drop n ps, h.windowed.count, length-take (length found) ps)

-- place by place
module _ (kind : ℕ) (s ps : List ℕ) (i : ℕ) where
  pub place-step : i < length ps → total kind s (drop i ps) ≡ length (words_at kind s (get_or ps i 0)) + total kind s (drop (i + 1) ps)
  place-step h =
      let e : suc i ≡ i + 1 = omega arith in
      ap (total kind s) (drop-cons ps i 0 h ∙ ap (λ (j : ℕ). get_or ps i 0 ∷ drop j ps) e)
      ∙ total_cons kind s (get_or ps i 0) (drop (i + 1) ps)

  pub place-end : length ps ≤ i → total kind s (drop i ps) ≡ 0
  unfolding flat_map
  place-end h = ap (total kind s) (drop_of_length-le ps {i = i} h)
