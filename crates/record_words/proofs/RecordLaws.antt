-- The words of the records, part by part, and word by word where a loop writes them. Assumes nothing.
use mathlib.Core.Path.{◌≡◌, refl, sym, ap, ◌∙◌}
use mathlib.Core.List.{List, [], ◌∷◌, ◌++◌, map, flat_map, append-nil}
use mathlib.Core.Option.{some}
use Prim.Native.Nat.{ℕ, ◌+◌, ◌-◌, ◌*◌, ◌/◌, ◌%◌, ◌≤◌, ◌<◌}
use native.Mathlib.Nat.{zero-add}
use native.Mathlib.Omega.{arith}
use lib.ListN.{length, take, drop, get_or, length-append, length-map, length-take, length-drop, drop_of_length-le}
use lib.Seq.{get_or-drop, get_or-take, length-take-le}
use borrow.Author.Tests.{eq-eqb, ne_eqb, le-leb}
use Rattle.format.specs.Digits.{value_of}
use Rattle.format.specs.Words.{memory_word, number_words, text_words, record_words}
use Rattle.format.specs.Binary.{bytes_at, number_at, memories_from, addresses_from}
use Rattle.format.proofs.ListLaws.{flat_map-append}
use Rattle.writing.specs.Written.{filled, written, Put}
use Rattle.writing.proofs.EachLaws.{drop_at_place, flat_map_at}
use Rattle.writing.proofs.WriteLaws.{filled-fits, written-fits}
use Rattle.writing.proofs.Parts.{State, Emits, rest, has_room}
use Rattle.writing.proofs.TextLaws.{first_word, word-three, words_at_lem}
use borrow.Author.Rules.{part_to_end}
use Rattle.binary_words.specs.RecordAt.{words_at}
use Rattle.format.proofs.Counts.{memories_length, addresses-length}
use Rattle.record_words.specs.OneWord.{memory_of_bytes, text_word_of, label_head, relocation_head}

-- the first part, where all of the room is lent
pub first :
    {A : Type 0} {whole room : List A} (part left : List A) {r : ℕ} {ys : List A} → whole ≡ part ++ left → length whole ≤ length room
    → Put part room r ys → Emits whole room left (record { at = r; out = ys })
first {whole = whole} {room = room} part left e h p =
    let n : length whole ≡ length part + length left = ap length e ∙ length-append part left in
    let l : length part ≤ length room = omega arith in
    record {
      done = part;
      split = sym e;
      place = p.0 ∙ filled-fits part room l;
      held = p.1 ∙ written-fits part room l;
      fits = h;
    }

pub first-room : {A : Type 0} (whole room part left : List A) → whole ≡ part ++ left → length whole ≤ length room
    → length part ≤ length room
first-room whole room part left e h =
    let n : length whole ≡ length part + length left = ap length e ∙ length-append part left in
    omega arith

-- there is room for the next part
pub room_for_lem :
    {A : Type 0} {whole room left : List A} {s : State A} (f : Emits whole room left s) (part left' : List A) → left ≡ part ++ left'
    → length part ≤ length (rest s)
room_for_lem {left = left} {s = s} f part left' e =
    let n : length left ≡ length part + length left' = ap length e ∙ length-append part left' in
    let r : length (rest s) ≡ length s.out - s.at = ap length (part_to_end s.out s.at) ∙ length-drop s.at s.out in
    omega (arith, has_room f)

-- MEMORY WORDS
pub memory_yes : (f a b : ℕ) → f ≡ 0xFF → 0x2001_0000 + a + 256 * b ≡ memory_of_bytes f a b
unfolding memory_word value_of
memory_yes f a b e = rw (eq-eqb f 0xFF e) (omega arith)

pub memory_no : (f a b : ℕ) → (f ≡ 0xFF → ⊥) → 0x2000_0000 ≡ memory_of_bytes f a b
unfolding memory_word value_of
memory_no f a b e = rw (ne_eqb f 0xFF e) refl

abbrev pub memory_words : List ℕ → List ℕ
memory_words s = map memory_word (memories_from s)

abbrev pub address_words : List ℕ → List ℕ
address_words s = map (λ a. memory_word (some a)) (addresses_from s)

pub length_memory : (s : List ℕ) → length (memory_words s) ≡ length s / 3
length_memory s = length-map (memories_from s) memory_word ∙ memories_length s

pub length-address : (s : List ℕ) → length (address_words s) ≡ length s / 2
length-address s = length-map (addresses_from s) (λ a. memory_word (some a)) ∙ addresses-length s

module _ (s : List ℕ) (i : ℕ) where
  abbrev Ahead : ℕ → ℕ → Type 0
  Ahead j k = drop j s ≡ get_or s j 0 ∷ drop k s

  ahead : (j k : ℕ) → j < length s → j + 1 ≡ k → Ahead j k
  ahead j k h e = drop_at_place 0 s j h ∙ ap (λ (n : ℕ). get_or s j 0 ∷ drop n s) e

  pub memory_at : i + 3 ≤ length s → memory_words (drop i s)
      ≡ memory_of_bytes (get_or s i 0) (get_or s (i + 1) 0) (get_or s (i + 2) 0) ∷ memory_words (drop (i + 3) s)
  unfolding memories_from
  memory_at h =
      let a = ahead i (i + 1) (omega arith) refl in
      let b = ahead (i + 1) (i + 2) (omega arith) (omega arith) in
      let c = ahead (i + 2) (i + 3) (omega arith) (omega arith) in
      ap memory_words (a ∙ ap (λ (z : List ℕ). get_or s i 0 ∷ z) (b ∙ ap (λ (z : List ℕ). get_or s (i + 1) 0 ∷ z) c))

  pub text_at_lem : i + 3 ≤ length s → text_words (drop i s)
      ≡ text_word_of (get_or s i 0) (get_or s (i + 1) 0) (get_or s (i + 2) 0) ∷ text_words (drop (i + 3) s)
  text_at_lem h =
      let a = ahead i (i + 1) (omega arith) refl in
      let b = ahead (i + 1) (i + 2) (omega arith) (omega arith) in
      let c = ahead (i + 2) (i + 3) (omega arith) (omega arith) in
      let xs : List ℕ = get_or s i 0 ∷ get_or s (i + 1) 0 ∷ get_or s (i + 2) 0 ∷ drop (i + 3) s in
      let d : drop i s ≡ xs = a ∙ ap (λ (z : List ℕ). get_or s i 0 ∷ z) (b ∙ ap (λ (z : List ℕ). get_or s (i + 1) 0 ∷ z) c) in
      words_at_lem s i (omega arith)
      ∙ ap (λ (w : ℕ). w ∷ text_words (drop (i + 3) s)) (ap first_word d ∙ sym (word-three xs (omega arith)))

  pub address_at_lem : i + 2 ≤ length s → address_words (drop i s)
      ≡ memory_of_bytes 0xFF (get_or s i 0) (get_or s (i + 1) 0) ∷ address_words (drop (i + 2) s)
  unfolding addresses_from
  address_at_lem h =
      let a = ahead i (i + 1) (omega arith) refl in
      let b = ahead (i + 1) (i + 2) (omega arith) (omega arith) in
      ap address_words (a ∙ ap (λ (z : List ℕ). get_or s i 0 ∷ z) b)

no_memory : (s : List ℕ) → length s < 3 → memory_words s ≡ []
unfolding memories_from
no_memory [] h = refl
no_memory (a ∷ []) h = refl
no_memory (a ∷ b ∷ []) h = refl
no_memory (a ∷ b ∷ c ∷ s) h = absurd (let z : ⊥ = omega arith in z)

no_address : (s : List ℕ) → length s < 2 → address_words s ≡ []
unfolding addresses_from
no_address [] h = refl
no_address (a ∷ []) h = refl
no_address (a ∷ b ∷ s) h = absurd (let z : ⊥ = omega arith in z)

pub memory_end : (s : List ℕ) (i : ℕ) → length s < i + 3 → memory_words (drop i s) ≡ []
memory_end s i h = no_memory (drop i s) (omega (arith, length-drop i s))

pub address-end : (s : List ℕ) (i : ℕ) → length s < i + 2 → address_words (drop i s) ≡ []
address-end s i h = no_address (drop i s) (omega (arith, length-drop i s))

-- A LABEL'S FIRST WORD
low_byte : (xs : List ℕ) → ((k : ℕ) → get_or xs k 0 < 256) → value_of 8 (take 2 xs) % 256 ≡ value_of 8 (take 1 xs)
unfolding value_of
low_byte [] h = refl
low_byte (a ∷ []) h = omega (arith, h 0)
low_byte (a ∷ b ∷ xs) h = omega (arith, h 0)

module _ (s : List ℕ) (p : ℕ) (fits : (k : ℕ) → get_or s k 0 < 256) where
  flag_byte : number_at (p + 3) 2 s % 256 ≡ number_at (p + 3) 1 s
  flag_byte = low_byte (drop (p + 3) s) (λ k. rw (get_or-drop (p + 3) s k 0) (fits (p + 3 + k)))

  pub head_inner : number_at (p + 3) 2 s % 256 ≡ 0 → 0x4000_0000 + number_at (p + 1) 2 s ≡ label_head s p
  head_inner e = rw (eq-eqb (number_at (p + 3) 1 s) 0 (sym flag_byte ∙ e)) (omega arith)

  pub head-external : (number_at (p + 3) 2 s % 256 ≡ 0 → ⊥) → 0x4001_0000 + number_at (p + 1) 2 s ≡ label_head s p
  head-external e = rw (ne_eqb (number_at (p + 3) 1 s) 0 (λ z. e (flag_byte ∙ z))) (omega arith)

-- RECORDS, part by part, by what a writer has read of them
module _ (s : List ℕ) (p : ℕ) (body : List ℕ) where
  pub block-parts : (h n : ℕ) → h ≡ number_at (p + 1) 2 s → n ≡ number_at (p + 3) 2 s → body ≡ bytes_at (p + 5) (3 * n) s
      → words_at 0 s p ≡ (h ∷ []) ++ (memory_words body ++ [])
  unfolding words_at record_words
  block-parts h n eh en q =
      rw (append-nil (memory_words body), q, en, eh)
      (ap (λ (w : ℕ). w ∷ memory_words (bytes_at (p + 5) (3 * number_at (p + 3) 2 s) s)) (zero-add (number_at (p + 1) 2 s)))

  pub label-parts : (h n : ℕ) → h ≡ label_head s p → n ≡ number_at (p + 12) 8 s → body ≡ bytes_at (p + 20) n s
      → words_at 1 s p ≡ (h ∷ []) ++ (number_words (number_at (p + 4) 8 s) ++ (text_words body ++ []))
  unfolding words_at record_words
  label-parts h n eh en q = rw (append-nil (text_words body), q, en, eh) refl

  pub lines-parts : (n : ℕ) → n ≡ number_at (p + 9) 2 s → body ≡ bytes_at (p + 11) (2 * n) s
      → words_at 2 s p ≡ (0x6000_0000 ∷ []) ++ (number_words (number_at (p + 1) 8 s) ++ (address_words body ++ []))
  unfolding words_at record_words
  lines-parts n en q = rw (append-nil (address_words body), q, en) refl

  pub relocation-parts : (h n : ℕ) → h ≡ relocation_head s p → n ≡ number_at (p + 3) 8 s → body ≡ bytes_at (p + 11) n s
      → words_at 4 s p ≡ (h ∷ []) ++ (text_words body ++ [])
  unfolding words_at record_words
  relocation-parts h n eh en q = rw (append-nil (text_words body), q, en, eh) refl

pub put-nothing : {A : Type 0} (part room : List A) → part ≡ [] → Put part room 0 room
unfolding filled written
put-nothing part room e = let h : 0 ≤ length room = omega arith in rw (e, le-leb 0 (length room) h) (refl, refl)

-- A WINDOW, place by place, and all windows
module _ (f : ℕ → List ℕ) where
  pub place-next : (ps : List ℕ) (i : ℕ) → i < length ps → flat_map f (drop i ps) ≡ f (get_or ps i 0) ++ flat_map f (drop (i + 1) ps)
  place-next ps i h = flat_map_at f 0 ps i h

  pub place-over : (ps : List ℕ) (i : ℕ) → length ps ≤ i → flat_map f (drop i ps) ≡ []
  unfolding flat_map
  place-over ps i h = ap (flat_map f) (drop_of_length-le ps {i = i} h)

  pub windows_next : (front rest places : List ℕ) → front ++ rest ≡ places → flat_map f places ≡ flat_map f front ++ flat_map f rest
  windows_next front rest places e = ap (flat_map f) (sym e) ∙ flat_map-append f front rest

  pub windows_over : (rest : List ℕ) → rest ≡ [] → flat_map f rest ≡ []
  unfolding flat_map
  windows_over rest e = ap (flat_map f) e
