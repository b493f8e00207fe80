-- The source, chunk by chunk: its words of three, and the bytes held over. Assumes nothing.
use mathlib.Core.Path.{◌≡◌, refl, sym, ap, ◌∙◌}
use mathlib.Core.Bool.{Bool, true, false, ◌&&◌}
use mathlib.Core.List.{List, [], ◌∷◌, ◌++◌, flat_map, append-nil, append_assoc}
use mathlib.Core.Option.{none, some}
use Prim.Native.Nat.{ℕ, ◌+◌, ◌-◌, ◌*◌, ◌/◌, ◌≤◌, ◌<◌}
use native.Mathlib.Omega.{arith}
use lib.ListN.{length, take, drop, length-append, length-drop, take-append-drop}
use lib.Seq.{drop-drop, take_at, drop_at, length-take-le}
use Rattle.std.specs.Prelude.{if◌then◌else◌}
use Rattle.format.specs.Basics.{is_empty, is_some}
use Rattle.format.specs.Digits.{value_of}
use Rattle.format.specs.Records.{source_records}
use Rattle.format.specs.Words.{word, text_words, record_words}
use Rattle.writing.specs.Written.{Put}
use Rattle.writing.proofs.WriteLaws.{filled-fits, written-fits, length-into}
use Rattle.writing.proofs.Parts.{State, Emits, rest, after, emit, emitted}
use Rattle.gather.specs.Places.{places_from, places_of}
use Rattle.binary_words.specs.RecordAt.{chunk_at, source_of, part_words}
use Rattle.binary_emit.specs.Chunks.{chunks_of}
use Rattle.binary_sizes.specs.ObjectWords.{source_words, keeps_relocations, relocation_words}
use Rattle.binary_sizes.specs.ObjectWords.{object_words}
use Rattle.binary_emit.specs.Chunks.{whole_bytes, whole_words, Chunked}
use Rattle.record_words.proofs.RecordLaws.{put-nothing}

-- BYTES HELD OVER
-- what a part writer leaves that is lent the rest past n
module _ (held part : List ℕ) (n : ℕ) (h : n + length part ≤ length held) where
  abbrev state : State ℕ
  state = record { at = n; out = held }

  started : Emits (take n held ++ part) held part state
  started =
      let l : length (take n held) ≡ n = length-take-le n held (omega arith) in
      record {
        done = take n held;
        split = refl;
        place = sym l;
        held = sym (take-append-drop n held) ∙ ap (λ (j : ℕ). take n held ++ drop j held) (sym l);
        fits = omega (arith, length-append (take n held) part);
      }

  pub topped : {r : ℕ} {ys : List ℕ} → Put part (rest state) r ys
      → (r ≡ length part) × (take (n + r) (after state r ys).out ≡ take n held ++ part) × (length (after state r ys).out ≡ length held)
  topped {r = r} {ys = ys} p =
      let l : length (take n held) ≡ n = length-take-le n held (omega arith) in
      let w : List ℕ = take n held ++ part in
      let lw : length w ≡ n + length part = omega (arith, length-append (take n held) part) in
      let q = emitted (emit started part [] (sym (append-nil part)) p) refl in
      let f : length w ≤ length held = omega arith in
      let a : n + r ≡ length w = q.0 ∙ filled-fits w held f in
      let b = q.1 ∙ written-fits w held f in (
        omega arith,
        ap (take (n + r)) b ∙ take_at w (drop (length w) held) (n + r) (sym a),
        ap length b ∙ length-into w held f,
      )

-- TEXT WORDS of bytes in threes
pub text_join : (x y : List ℕ) (m : ℕ) → length x ≡ 3 * m → text_words (x ++ y) ≡ text_words x ++ text_words y
unfolding text_words
text_join [] y m e = refl
text_join (a ∷ []) y m e = absurd (let z : ⊥ = omega arith in z)
text_join (a ∷ b ∷ []) y m e = absurd (let z : ⊥ = omega arith in z)
text_join (a ∷ b ∷ c ∷ x) y m e = ap (λ (z : List ℕ). word 7 (value_of 8 (a ∷ b ∷ c ∷ 3 ∷ [])) ∷ z) (text_join x y (m - 1) (omega arith))

whole-within : (bs : List ℕ) → whole_bytes bs ≤ length bs
whole-within bs = omega arith

-- the words of three, and those of the bytes after them
pub text_split : (bs more : List ℕ) → text_words (bs ++ more) ≡ whole_words bs ++ text_words (drop (whole_bytes bs) bs ++ more)
text_split bs more =
    let t = take (whole_bytes bs) bs in
    let d = drop (whole_bytes bs) bs in
    ap (λ (z : List ℕ). text_words (z ++ more)) (sym (take-append-drop (whole_bytes bs) bs))
    ∙ ap text_words (append_assoc t d more)
    ∙ text_join t (d ++ more) (length bs / 3) (length-take-le (whole_bytes bs) bs (whole-within bs) ∙ omega arith)

-- A CHUNK that does not make three bytes
module _ (bytes room held : List ℕ) (n : ℕ) (e : take n held ≡ bytes) (h : length bytes < 3) (f : n < 3) where
  none-whole : whole_bytes bytes ≡ 0
  none-whole = omega arith

  pub chunk_held : Chunked bytes room held room 0 n
  unfolding text_words
  chunk_held = record {
    put = put-nothing (whole_words bytes) room (ap (λ (j : ℕ). text_words (take j bytes)) none-whole);
    over = e ∙ sym (ap (λ (j : ℕ). drop j bytes) none-whole);
    few = f;
  }

-- A CHUNK that does: three bytes are held, and the k first of the chunk are among them
module _ (front s held : List ℕ) (k : ℕ) (e : held ≡ front ++ take k s) (l : length held ≡ 3) (h : k ≤ length s) where
  abbrev bytes : List ℕ
  bytes = front ++ s

  abbrev past : List ℕ
  past = drop k s

  abbrev size : ℕ
  size = (length s - k) / 3 * 3

  joined : bytes ≡ held ++ past
  joined =
      ap (λ (z : List ℕ). front ++ z) (sym (take-append-drop k s)) ∙ sym (append_assoc front (take k s) past)
      ∙ ap (λ (z : List ℕ). z ++ past) (sym e)

  whole : whole_bytes bytes ≡ 3 + size
  whole = omega (arith, ap length joined, length-append held past, length-drop k s)

  split : bytes ≡ (held ++ take size past) ++ drop size past
  split =
      joined ∙ ap (λ (z : List ℕ). held ++ z) (sym (take-append-drop size past)) ∙ sym (append_assoc held (take size past) (drop size past))

  long : length (held ++ take size past) ≡ whole_bytes bytes
  long =
      let t : length (take size past) ≡ size = length-take-le size past (omega (arith, length-drop k s)) in
      omega (arith, whole, length-append held (take size past))

  pub chunk_words : whole_words bytes ≡ text_words held ++ (text_words (take size past) ++ [])
  chunk_words =
      ap text_words (ap (take (whole_bytes bytes)) split ∙ take_at (held ++ take size past) (drop size past) (whole_bytes bytes) long)
      ∙ text_join held (take size past) 1 l ∙ ap (λ (z : List ℕ). text_words held ++ z) (sym (append-nil (text_words (take size past))))

  pub chunk_over : drop (whole_bytes bytes) bytes ≡ drop (k + size) s
  chunk_over =
      ap (drop (whole_bytes bytes)) split ∙ drop_at (held ++ take size past) (drop size past) (whole_bytes bytes) long ∙ drop-drop size k s

  pub chunk_past : length (drop (k + size) s) < 3
  chunk_past = omega (arith, length-drop (k + size) s)

-- ALL CHUNKS
pub chunk_next :
    (front chunk more all : List ℕ) → all ≡ chunk ++ more
    → text_words (front ++ all) ≡ whole_words (front ++ chunk) ++ text_words (drop (whole_bytes (front ++ chunk)) (front ++ chunk) ++ more)
chunk_next front chunk more all e =
    ap (λ (z : List ℕ). text_words (front ++ z)) e ∙ ap text_words (sym (append_assoc front chunk more)) ∙ text_split (front ++ chunk) more

pub chunk_last : (held more : List ℕ) (n : ℕ) → more ≡ [] → text_words (take n held ++ more) ≡ text_words (take (n - 0) (drop 0 held)) ++ []
chunk_last held more n e =
    let z : n ≡ n - 0 = omega arith in
    ap (λ (m : List ℕ). text_words (take n held ++ m)) e ∙ ap text_words (append-nil (take n held))
    ∙ ap (λ (j : ℕ). text_words (take j held)) z
    ∙ sym (append-nil (text_words (take (n - 0) held)))

pub chunks_first : (s : List ℕ) (at p next : ℕ) → places_from 3 s at ≡ p ∷ places_from 3 s next
    → flat_map (chunk_at s) (places_from 3 s at) ≡ chunk_at s p ++ flat_map (chunk_at s) (places_from 3 s next)
unfolding flat_map
chunks_first s at p next e = ap (flat_map (chunk_at s)) e

pub chunks_over : (s : List ℕ) (at : ℕ) → places_from 3 s at ≡ [] → flat_map (chunk_at s) (places_from 3 s at) ≡ []
unfolding flat_map
chunks_over s at e = ap (flat_map (chunk_at s)) e

-- THE SOURCE
module _ (s : List ℕ) where
  pub source-parts : is_some (source_of s) ≡ true → source_words s ≡ (0x8000_0000 ∷ []) ++ (text_words (chunks_of s) ++ [])
  unfolding source_of is_some source_records record_words flat_map
  source-parts e = go (is_empty (places_of 2 s) && is_empty (places_of 3 s)) e
    where
      go : (t : Bool) → is_some (if t then none else some (chunks_of s)) ≡ true
          → flat_map record_words (source_records (if t then none else some (chunks_of s))) ≡ (0x8000_0000 ∷ [])
          ++ (text_words (chunks_of s) ++ [])
      go true e = let z : ◌≡◌ {A = ℕ} 0 1 = cc in absurd (omega arith)
      go false e = refl

  pub source-nothing : is_some (source_of s) ≡ false → source_words s ≡ []
  unfolding source_of is_some source_records flat_map
  source-nothing e = go (is_empty (places_of 2 s) && is_empty (places_of 3 s)) e
    where
      go : (t : Bool) → is_some (if t then none else some (chunks_of s)) ≡ false
          → flat_map record_words (source_records (if t then none else some (chunks_of s))) ≡ []
      go true e = refl
      go false e = let z : ◌≡◌ {A = ℕ} 0 1 = cc in absurd (omega arith)

-- THE FIVE PARTS
module _ (s : List ℕ) where
  pub kept-relocations : keeps_relocations s ≡ true → relocation_words s ≡ part_words 4 s
  kept-relocations e = rw e refl

  pub dropped_relocations : keeps_relocations s ≡ false → relocation_words s ≡ []
  dropped_relocations e = rw e refl

  pub object-parts : object_words s ≡ part_words 0 s ++ (part_words 1 s ++ (part_words 2 s ++ (source_words s ++ (relocation_words s ++ []))))
  unfolding object_words
  object-parts =
      ap (λ (z : List ℕ). part_words 0 s ++ (part_words 1 s ++ (part_words 2 s ++ (source_words s ++ z))))
      (sym (append-nil (relocation_words s)))
