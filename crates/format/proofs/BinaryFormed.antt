-- What the binary reader gives, for every input of bytes, is well formed and in range. What the reading of one record settles: it is no
-- longer than what is there, it is the same whatever follows, and of bytes it is in range. Assumes nothing.
use mathlib.Core.Path.{◌≡◌, refl, ◌∙◌, ap}
use mathlib.Core.Bool.{Bool, true, false, not}
use mathlib.Core.List.{List, [], ◌∷◌, ◌++◌}
use Prim.Native.Nat.{ℕ, ◌+◌, ◌*◌, ◌^◌, ◌≤◌, ◌<◌}
use native.Mathlib.Omega.{arith}
use lib.ListN.{length, take, drop, length-append, length-take, length-drop, take-append-drop}
use lib.Seq.{take-append-le, drop-append-le}
use lib.Dec.{leb, ltb, eqb}
use borrow.Author.Tests.{ltb-true, leb-true, le-leb}
use Rattle.std.specs.Prelude.{if◌then◌else◌}
use Rattle.format.specs.Basics.{Outcome, refused, given, chain, All, begins_with}
use Rattle.format.specs.Digits.{value_of}
use Rattle.format.specs.Utf8.{is_utf8}
use Rattle.format.specs.ObjectFile.{LineBlock, never_fall, strictly_rise, ObjectFile, apart}
use Rattle.format.specs.Records.{Record, gather_records, empty_object, binary_questions, ask_all}
use Rattle.format.specs.Binary.{number_at, bytes_at, memories_from, addresses_from, block_from, label_from, lines_from, source_from, relocation_from, record_at, header, binary_records, binary_object}
use Rattle.format.specs.Words.{object_of}
use Rattle.format.specs.Calls.{read_binary}
use Rattle.format.proofs.Laws.{AllBelow, source-from}
use Rattle.format.proofs.DigitLaws.{below_take, value_lt}
use Rattle.format.proofs.ListLaws.{both, all-parts, every-all, all_map}
use Rattle.format.proofs.Utf8Laws.{text_of}
use Rattle.format.proofs.Ranges.{In16, Word16, Bytes, WellFormed, InRange}
use Rattle.format.proofs.Counts.{memories_length}
use Rattle.format.proofs.BinaryBack.{block-from, label-from, lines-from, relocation-from}
use Rattle.format.proofs.Outcomes.{by_if, Gives, gives_ask, gives, gives_bind, gives_map, tokens_gives}
use Rattle.format.proofs.Invariants.{Sound, Whole, words_formed, empty_formed, gather_formed, concluded_formed}

memories_below : (bs : List ℕ) → Bytes bs → All Word16 (memories_from bs)
unfolding memories_from
memories_below [] h = tt
memories_below (f ∷ []) h = tt
memories_below (f ∷ a ∷ []) h = tt
memories_below (f ∷ a ∷ b ∷ bs) h =
    let v = value_lt 8 2 (a ∷ b ∷ []) (h.1.0, (h.1.1.0, tt)) (omega arith) in
    (by_if Word16 (eqb f 0xFF) _ _ (λ _. v) (λ _. tt), memories_below bs h.1.1.1)

addresses_below : (bs : List ℕ) → Bytes bs → All In16 (addresses_from bs)
unfolding addresses_from
addresses_below [] h = tt
addresses_below (a ∷ []) h = tt
addresses_below (a ∷ b ∷ bs) h = (value_lt 8 2 (a ∷ b ∷ []) (h.0, (h.1.0, tt)) (omega arith), addresses_below bs h.1.1)

-- what rises strictly never falls
rise_never_fall : (ns : List ℕ) → strictly_rise ns ≡ true → never_fall ns ≡ true
unfolding chain
rise_never_fall [] h = refl
rise_never_fall (m ∷ []) h = refl
rise_never_fall (m ∷ n ∷ ns) h =
    let p = both (ltb m n) (strictly_rise (n ∷ ns)) h in
    let l = ltb-true m n p.0 in
    rw (le-leb m n (omega arith), rise_never_fall (n ∷ ns) p.1)

abbrev pub NeverFalls : LineBlock → Type 0
NeverFalls l = never_fall l.addresses ≡ true

pub bytes_drop : (n : ℕ) (bs : List ℕ) → Bytes bs → Bytes (drop n bs)
bytes_drop n bs h = (all-parts (λ b. b < 2 ^ 8) (take n bs) (drop n bs) (rw (take-append-drop n bs) h)).1

-- the bytes of a record after its kind byte, and what comes after them
module _ (bs ys : List ℕ) where
  abbrev pub ReadWhole : (List ℕ → Outcome (Record × ℕ)) → Record × ℕ → Type 0
  ReadWhole from t = (t.1 ≤ length bs) × (from (bs ++ ys) ≡ given t) × (Bytes bs → Sound NeverFalls t.0)

  longer : (n : ℕ) → leb n (length bs) ≡ true → leb n (length (bs ++ ys)) ≡ true
  longer n h = le-leb n (length (bs ++ ys)) (omega (arith, leb-true n (length bs) h, length-append bs ys))

  bytes_stay : (at n : ℕ) → at + n ≤ length bs → bytes_at at n (bs ++ ys) ≡ bytes_at at n bs
  bytes_stay at n h =
      ap (take n) (drop-append-le at bs ys (omega arith)) ∙ take-append-le n (drop at bs) ys (omega (arith, length-drop at bs))

  number_stays : (at n : ℕ) → at + n ≤ length bs → number_at at n (bs ++ ys) ≡ number_at at n bs
  number_stays at n h = ap (value_of 8) (bytes_stay at n h)

  bytes_below : (at n : ℕ) → Bytes bs → Bytes (bytes_at at n bs)
  bytes_below at n b = below_take (2 ^ 8) n (drop at bs) (bytes_drop at bs b)

  number_below : (at n : ℕ) → Bytes bs → number_at at n bs < (2 ^ 8) ^ n
  number_below at n b = value_lt 8 n (bytes_at at n bs) (bytes_below at n b) (rw length-take (omega arith))

  block_read : Gives (ReadWhole block_from) (block_from bs)
  unfolding block_from
  block_read =
      let n : ℕ = number_at 2 2 bs in
      let ms : List ℕ = bytes_at 4 (3 * n) bs in
      gives_ask _ 12 (leb 4 (length bs)) _ λ h. gives_ask _ 12 (leb (4 + 3 * n) (length bs)) _ λ k.
      let l = leb-true (4 + 3 * n) (length bs) k in
      let same = block-from (bs ++ ys) n _ _ (longer 4 h) (number_stays 2 2 (omega arith)) (longer (4 + 3 * n) k)
      (number_stays 0 2 (omega arith)) (ap memories_from (bytes_stay 4 (3 * n) l)) in
      let few : 3 * length (memories_from ms) ≤ 3 * n = omega (arith, memories_length ms, length-take (3 * n) (drop 4 bs)) in
      (l, same, λ b. ((number_below 0 2 b, memories_below ms (bytes_below 4 (3 * n) b)), omega (arith, number_below 2 2 b)))

  label-read : Gives (ReadWhole label_from) (label_from bs)
  unfolding label_from
  label-read =
      let n : ℕ = number_at 11 8 bs in
      let name : List ℕ = bytes_at 19 n bs in
      gives_ask _ 12 (leb 19 (length bs)) _ λ h. gives_ask _ 12 (leb (19 + n) (length bs)) _ λ k. gives_ask _ 13 (is_utf8 name) _ λ u.
      let l = leb-true (19 + n) (length bs) k in
      let same = label-from (bs ++ ys) name n _ _ _ (longer 19 h) (number_stays 11 8 (omega arith)) (longer (19 + n) k)
      (bytes_stay 19 n l) u (number_stays 0 2 (omega arith)) (ap (λ (x : ℕ). not (eqb x 0)) (number_stays 2 1 (omega arith)))
      (number_stays 3 8 (omega arith)) in
      (l, same, λ b. (number_below 0 2 b, number_below 3 8 b, text_of name u))

  lines-read : Gives (ReadWhole lines_from) (lines_from bs)
  unfolding lines_from
  lines-read =
      let n : ℕ = number_at 8 2 bs in
      let xs : List ℕ = addresses_from (bytes_at 10 (2 * n) bs) in
      gives_ask _ 12 (leb 10 (length bs)) _ λ h. gives_ask _ 12 (leb (10 + 2 * n) (length bs)) _ λ k.
      gives_ask _ 14 (strictly_rise xs) _ λ u.
      let l = leb-true (10 + 2 * n) (length bs) k in
      let same = lines-from (bs ++ ys) n _ xs (longer 10 h) (number_stays 8 2 (omega arith)) (longer (10 + 2 * n) k)
      (number_stays 0 8 (omega arith)) (ap addresses_from (bytes_stay 10 (2 * n) l)) u in
      (l, same, λ b. ((number_below 0 8 b, addresses_below (bytes_at 10 (2 * n) bs) (bytes_below 10 (2 * n) b)), rise_never_fall xs u))

  source-read : Gives (ReadWhole source_from) (source_from bs)
  unfolding source_from
  source-read =
      let n : ℕ = number_at 0 8 bs in
      let text : List ℕ = bytes_at 8 n bs in
      gives_ask _ 12 (leb 8 (length bs)) _ λ h. gives_ask _ 12 (leb (8 + n) (length bs)) _ λ k. gives_ask _ 13 (is_utf8 text) _ λ u.
      let l = leb-true (8 + n) (length bs) k in
      let same = source-from (bs ++ ys) text n (longer 8 h) (number_stays 0 8 (omega arith)) (longer (8 + n) k) (bytes_stay 8 n l) u in
      (l, same, λ b. text_of text u)

  relocation-read : Gives (ReadWhole relocation_from) (relocation_from bs)
  unfolding relocation_from
  relocation-read =
      let n : ℕ = number_at 2 8 bs in
      let name : List ℕ = bytes_at 10 n bs in
      gives_ask _ 12 (leb 10 (length bs)) _ λ h. gives_ask _ 12 (leb (10 + n) (length bs)) _ λ k. gives_ask _ 13 (is_utf8 name) _ λ u.
      let l = leb-true (10 + n) (length bs) k in
      let same = relocation-from (bs ++ ys) n _ name (longer 10 h) (number_stays 2 8 (omega arith)) (longer (10 + n) k)
      (number_stays 0 2 (omega arith)) (bytes_stay 10 n l) u in
      (l, same, λ b. (number_below 0 2 b, text_of name u))

  pub record_read : (k : ℕ) → Gives (ReadWhole (λ xs. record_at (k ∷ xs))) (record_at (k ∷ bs))
  unfolding record_at
  record_read k = go (eqb k 0) (eqb k 1) (eqb k 2) (eqb k 3) (eqb k 4)
    where
      from : Bool → Bool → Bool → Bool → Bool → List ℕ → Outcome (Record × ℕ)
      from a b c d e xs =
          if a then block_from xs else if b then label_from xs else if c then lines_from xs else if d then source_from xs
          else if e then relocation_from xs else refused 11

      go : (a b c d e : Bool) → Gives (ReadWhole (from a b c d e)) (from a b c d e bs)
      go true b c d e = block_read
      go false true c d e = label-read
      go false false true d e = lines-read
      go false false false true e = source-read
      go false false false false true = relocation-read
      go false false false false false = tt

records_sound : (bs : List ℕ) → Bytes bs → Gives (All (Sound NeverFalls)) (binary_records bs)
unfolding binary_records
records_sound bs h =
    gives_ask (All (Sound NeverFalls)) 10 (begins_with header bs) _ λ _.
    tokens_gives record_at (Sound NeverFalls) (λ _ xs. Bytes xs) (λ k a xs i. i.1)
    (λ a xs i. gives_map (ReadWhole xs [] (λ ys. record_at (a ∷ ys))) _ (λ t s. (s.2 i.1, i.1)) (record_at (a ∷ xs))
    (record_read xs [] a))
    0 (drop 7 bs) (bytes_drop 7 bs h)

binary-whole : (bs : List ℕ) → Bytes bs → Gives Whole (binary_object bs)
unfolding binary_object ask_all
binary-whole bs b =
    gives_bind Whole (All (Sound NeverFalls)) (binary_records bs) _ (records_sound bs b) λ rs s.
    let g : ObjectFile = gather_records empty_object rs in
    let f = gather_formed NeverFalls empty_object rs (empty_formed NeverFalls) s in
    let n = every-all (λ l. never_fall l.addresses) g.line_blocks (all_map (λ l u. u.1) g.line_blocks f.line_blocks.1) in
    concluded_formed NeverFalls binary_questions g f (gives_ask _ 15 (apart g.line_blocks) _ λ a. (a, n))

pub binary_formed : (bs : List ℕ) (h : ObjectFile) → AllBelow (2 ^ 8) bs → binary_object bs ≡ given h → WellFormed h × InRange h
binary_formed bs h b e = gives Whole (binary_object bs) h (binary-whole bs b) e

-- so the words read are well formed
pub binary-words_formed : (bs ws : List ℕ) → AllBelow (2 ^ 8) bs → read_binary bs ≡ given ws → (h : ObjectFile) × (object_of ws ≡ given h)
unfolding read_binary
binary-words_formed bs ws b e = words_formed (binary_object bs) ws (binary-whole bs b) e
