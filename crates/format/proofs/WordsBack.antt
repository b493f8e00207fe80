-- The words of a record in range are read as that record: memory, numbers and texts of every length, and the head that begins it.
-- Assumes nothing.
use mathlib.Core.Path.{◌≡◌, refl, ap}
use mathlib.Core.Bool.{Bool, true, false, ◌||◌}
use mathlib.Core.List.{List, [], ◌∷◌, ◌++◌, map, append-nil}
use mathlib.Core.Option.{Option, none, some}
use Prim.Native.Nat.{ℕ, ◌+◌, ◌-◌, ◌*◌, ◌/◌, ◌%◌, ◌^◌, ◌<◌}
use native.Mathlib.Omega.{arith}
use lib.ListN.{length, take, drop, get_or}
use lib.Dec.{leb, ltb, eqb}
use borrow.Author.Tests.{eq-eqb, ne_eqb, lt-ltb, le-leb, lt-leb}
use Rattle.format.specs.Basics.{given, All}
use Rattle.format.specs.Digits.{value_of, digits_of}
use Rattle.format.specs.Utf8.{is_between}
use Rattle.format.specs.Records.{Record, block, label, line_block, source, relocation}
use Rattle.format.specs.Words.{word, flag_bit, memory_word, number_words, text_words, record_words, bits_of, memory_of, memories_of, addresses_of, number_from, text_part, text_from, is_head, record_from}
use Rattle.format.proofs.Laws.{value_digits, digits_value}
use Rattle.format.proofs.ListLaws.{all_append}
use Rattle.format.proofs.Ranges.{In16, In64, Word16, Bytes, InWords}

-- a word has its kind and its bits
pub bits_back : (kind limit x : ℕ) → x < 2 ^ 29 → x < limit → bits_of kind limit (word kind x) ≡ given x
unfolding bits_of
bits_back kind limit x h l =
    let k : word kind x / 2 ^ 29 ≡ kind = omega arith in
    let b : word kind x % 2 ^ 29 ≡ x = omega arith in
    rw (k, b, eq-eqb kind kind refl, lt-ltb x limit l)

memory_back : (m : Option ℕ) → Word16 m → memory_of (memory_word m) ≡ given m
unfolding memory_of memory_word
memory_back none h = rw (bits_back 1 (2 ^ 17) 0 (omega arith) (omega arith))
memory_back (some v) h =
    let s : 2 ^ 16 + v - 2 ^ 16 ≡ v = omega arith in
    rw (bits_back 1 (2 ^ 17) (2 ^ 16 + v) (omega arith) (omega arith), ne_eqb (2 ^ 16 + v) 0 (omega arith), le-leb (2 ^ 16) (2 ^ 16 + v) (omega arith), s)

memories_back : (ms : List (Option ℕ)) → All Word16 ms → memories_of (map memory_word ms) ≡ given ms
unfolding memories_of
memories_back [] h = refl
memories_back (m ∷ ms) h = rw (memory_back m h.0, memories_back ms h.1)

addresses-back : (xs : List ℕ) → All In16 xs → addresses_of (map (λ a. memory_word (some a)) xs) ≡ given xs
unfolding addresses_of memory_word
addresses-back [] h = refl
addresses-back (x ∷ xs) h =
    let u = h.0 in
    let s : 2 ^ 16 + x - 2 ^ 16 ≡ x = omega arith in
    rw (bits_back 1 (2 ^ 17) (2 ^ 16 + x) (omega arith) (omega arith), le-leb (2 ^ 16) (2 ^ 16 + x) (omega arith), addresses-back xs h.1, s)

number-back : (n : ℕ) (ws : List ℕ) → In64 n → number_from (number_words n ++ ws) ≡ given (n, ws)
unfolding number_from number_words digits_of
number-back n ws h =
    let v : value_of 24 (digits_of 24 3 n) ≡ n = value_digits 24 3 n (omega arith) in
    rw
    (bits_back 6 (2 ^ 24) (n % 2 ^ 24) (omega arith) (omega arith), bits_back 6 (2 ^ 24) (n / 2 ^ 24 % 2 ^ 24) (omega arith) (omega arith), bits_back 6 (2 ^ 16) (n / 2 ^ 24 / 2 ^ 24 % 2 ^ 24) (omega arith) (omega arith), v)

part_path :
    (w x n : ℕ) (bs : List ℕ) → bits_of 7 (2 ^ 26) w ≡ given x → x / 2 ^ 24 ≡ n → is_between 1 3 n ≡ true → ltb (x % 2 ^ 24) (2 ^ (8 * n)) ≡ true → digits_of 8 n x ≡ bs
    → text_part w ≡ given bs
unfolding text_part
part_path w x n bs a b c d e = rw (a, b, c, d, e)

text-step :
    (w : ℕ) (ws bs cs : List ℕ) → text_part w ≡ given bs → length bs ≡ 3 → text_from ws ≡ given cs → text_from (w ∷ ws) ≡ given (bs ++ cs)
unfolding text_from
text-step w [] bs cs p l e = let c : cs ≡ [] = cc in rw (p, c, append-nil bs)
text-step w (v ∷ ws) bs cs p l e = rw (p, eq-eqb (length bs) 3 l, e)

text-back : (t : List ℕ) → Bytes t → text_from (text_words t) ≡ given t
unfolding text_from text_words value_of digits_of
text-back [] h = refl
text-back (a ∷ []) h =
    let x : ℕ = value_of 8 (a ∷ 0 ∷ 0 ∷ 1 ∷ []) in
    let ha = h.0 in
    part_path (word 7 x) x 1 (a ∷ []) (bits_back 7 (2 ^ 26) x (omega arith) (omega arith)) (omega arith) refl (lt-ltb (x % 2 ^ 24) (2 ^ 8) (omega arith))
    (ap (take 1) (digits_value 8 (a ∷ 0 ∷ 0 ∷ 1 ∷ []) (omega arith)))
text-back (a ∷ b ∷ []) h =
    let x : ℕ = value_of 8 (a ∷ b ∷ 0 ∷ 2 ∷ []) in
    let ha = h.0 in
    let hb = h.1.0 in
    part_path (word 7 x) x 2 (a ∷ b ∷ []) (bits_back 7 (2 ^ 26) x (omega arith) (omega arith)) (omega arith) refl (lt-ltb (x % 2 ^ 24) (2 ^ 16) (omega arith))
    (ap (take 2) (digits_value 8 (a ∷ b ∷ 0 ∷ 2 ∷ []) (omega arith)))
text-back (a ∷ b ∷ c ∷ bs) h =
    let x : ℕ = value_of 8 (a ∷ b ∷ c ∷ 3 ∷ []) in
    let ha = h.0 in
    let hb = h.1.0 in
    let hc = h.1.1.0 in
    text-step (word 7 x) (text_words bs) (a ∷ b ∷ c ∷ []) bs
    (part_path (word 7 x) x 3 (a ∷ b ∷ c ∷ []) (bits_back 7 (2 ^ 26) x (omega arith) (omega arith)) (omega arith) refl (lt-ltb (x % 2 ^ 24) (2 ^ 24) (omega arith))
    (ap (take 3) (digits_value 8 (a ∷ b ∷ c ∷ 3 ∷ []) (omega arith))))
    refl (text-back bs h.1.1.1)

-- which words begin a record
body_word : (k x : ℕ) → x < 2 ^ 29 → eqb k 0 ≡ false → is_between 2 5 k ≡ false → is_head (word k x) ≡ false
unfolding is_head
body_word k x h a b = let e : word k x / 2 ^ 29 ≡ k = omega arith in rw (e, a, b)

abbrev IsBody : ℕ → Type 0
IsBody w = is_head w ≡ false

memory_body : (m : Option ℕ) → Word16 m → IsBody (memory_word m)
unfolding memory_word
memory_body none h = body_word 1 0 (omega arith) refl refl
memory_body (some v) h = body_word 1 (2 ^ 16 + v) (omega arith) refl refl

memories_body : (ms : List (Option ℕ)) → All Word16 ms → All IsBody (map memory_word ms)
memories_body [] h = tt
memories_body (m ∷ ms) h = (memory_body m h.0, memories_body ms h.1)

addresses_body : (xs : List ℕ) → All In16 xs → All IsBody (map (λ a. memory_word (some a)) xs)
addresses_body [] h = tt
addresses_body (x ∷ xs) h = (memory_body (some x) h.0, addresses_body xs h.1)

number_body : (n : ℕ) → All IsBody (number_words n)
unfolding number_words digits_of
number_body n =
    (body_word 6 (n % 2 ^ 24) (omega arith) refl refl, (body_word 6 (n / 2 ^ 24 % 2 ^ 24) (omega arith) refl refl, (body_word 6 (n / 2 ^ 24 / 2 ^ 24 % 2 ^ 24) (omega arith) refl refl, tt)))

text_body : (t : List ℕ) → Bytes t → All IsBody (text_words t)
unfolding text_words value_of
text_body [] h = tt
text_body (a ∷ []) h = let ha = h.0 in (body_word 7 (value_of 8 (a ∷ 0 ∷ 0 ∷ 1 ∷ [])) (omega arith) refl refl, tt)
text_body (a ∷ b ∷ []) h = let ha = h.0 in let hb = h.1.0 in (body_word 7 (value_of 8 (a ∷ b ∷ 0 ∷ 2 ∷ [])) (omega arith) refl refl, tt)
text_body (a ∷ b ∷ c ∷ bs) h =
    let ha = h.0 in
    let hb = h.1.0 in
    let hc = h.1.1.0 in
    (body_word 7 (value_of 8 (a ∷ b ∷ c ∷ 3 ∷ [])) (omega arith) refl refl, text_body bs h.1.1.1)

-- a record's first word, and those after it
unfoldable pub group_of : Record → ℕ × List ℕ
group_of r = (get_or (record_words r) 0 0, drop 1 (record_words r))

pub group_words : (r : Record) → record_words r ≡ (group_of r).0 ∷ (group_of r).1
unfolding group_of record_words
group_words (block b) = refl
group_words (label l) = refl
group_words (line_block l) = refl
group_words (source s) = refl
group_words (relocation r) = refl

head-word : (k x : ℕ) → x < 2 ^ 29 → (eqb k 0 || is_between 2 5 k) ≡ true → is_head (word k x) ≡ true
unfolding is_head
head-word k x h a = let e : word k x / 2 ^ 29 ≡ k = omega arith in rw (e, a)

flag : (e : Bool) (a : ℕ) → In16 a → (a + 2 ^ 16 * flag_bit e < 2 ^ 17) × ((a + 2 ^ 16 * flag_bit e) % 2 ^ 16 ≡ a) × (leb (2 ^ 16) (a + 2 ^ 16 * flag_bit e) ≡ e)
flag true a h = (omega arith, omega arith, le-leb (2 ^ 16) (a + 2 ^ 16 * 1) (omega arith))
flag false a h = (omega arith, omega arith, lt-leb (2 ^ 16) (a + 2 ^ 16 * 0) (omega arith))

pub group_head : (r : Record) → InWords r → is_head (group_of r).0 ≡ true
unfolding group_of record_words
group_head (block b) h = head-word 0 b.address (omega arith) refl
group_head (label l) h = let f = flag l.external l.address h.0 in head-word 2 (l.address + 2 ^ 16 * flag_bit l.external) (omega arith) refl
group_head (line_block l) h = head-word 3 0 (omega arith) refl
group_head (source s) h = head-word 4 0 (omega arith) refl
group_head (relocation r) h = head-word 5 r.address (omega arith) refl

pub group_body : (r : Record) → InWords r → All IsBody (group_of r).1
unfolding group_of record_words
group_body (block b) h = memories_body b.words h.1
group_body (label l) h = all_append IsBody (number_words l.start) (text_words l.name) (number_body l.start) (text_body l.name h.2)
group_body (line_block l) h = all_append IsBody (number_words l.first) (map (λ a. memory_word (some a)) l.addresses) (number_body l.first) (addresses_body l.addresses h.1)
group_body (source s) h = text_body s h
group_body (relocation r) h = text_body r.name h.1

-- the reader's path for each kind, where its questions are answered
module _ (w : ℕ) (ws : List ℕ) where
  from_block :
      (a : ℕ) (ms : List (Option ℕ)) → w / 2 ^ 29 ≡ 0 → bits_of 0 (2 ^ 16) w ≡ given a → memories_of ws ≡ given ms
      → record_from (w, ws) ≡ given (block (record { address = a; words = ms }))
  unfolding record_from
  from_block a ms k b c = rw (k, b, c)

  from-label :
      (x n : ℕ) (vs t : List ℕ) (a : ℕ) (e : Bool) → w / 2 ^ 29 ≡ 2 → bits_of 2 (2 ^ 17) w ≡ given x → number_from ws ≡ given (n, vs) → text_from vs ≡ given t → x % 2 ^ 16 ≡ a → leb (2 ^ 16) x ≡ e
      → record_from (w, ws) ≡ given (label (record { name = t; address = a; external = e; start = n }))
  unfolding record_from
  from-label x n vs t a e k b c d f g = rw (k, b, c, d, f, g)

  from-line :
      (n : ℕ) (vs xs : List ℕ) → w / 2 ^ 29 ≡ 3 → bits_of 3 1 w ≡ given 0 → number_from ws ≡ given (n, vs) → addresses_of vs ≡ given xs
      → record_from (w, ws) ≡ given (line_block (record { first = n; addresses = xs }))
  unfolding record_from
  from-line n vs xs k b c d = rw (k, b, c, d)

  from-source : (t : List ℕ) → w / 2 ^ 29 ≡ 4 → bits_of 4 1 w ≡ given 0 → text_from ws ≡ given t → record_from (w, ws) ≡ given (source t)
  unfolding record_from
  from-source t k b c = rw (k, b, c)

  from-relocation :
      (a : ℕ) (t : List ℕ) → w / 2 ^ 29 ≡ 5 → bits_of 5 (2 ^ 16) w ≡ given a → text_from ws ≡ given t
      → record_from (w, ws) ≡ given (relocation (record { address = a; name = t }))
  unfolding record_from
  from-relocation a t k b c = rw (k, b, c)

pub group_back : (r : Record) → InWords r → record_from (group_of r) ≡ given r
unfolding group_of record_words
group_back (block b) h =
    from_block (word 0 b.address) (map memory_word b.words) b.address b.words (omega arith) (bits_back 0 (2 ^ 16) b.address (omega arith) h.0)
    (memories_back b.words h.1)
group_back (label l) h =
    let x : ℕ = l.address + 2 ^ 16 * flag_bit l.external in
    let f = flag l.external l.address h.0 in
    from-label (word 2 x) (number_words l.start ++ text_words l.name) x l.start (text_words l.name) l.name l.address l.external (omega arith)
    (bits_back 2 (2 ^ 17) x (omega arith) f.0) (number-back l.start (text_words l.name) h.1) (text-back l.name h.2) f.1 f.2
group_back (line_block l) h =
    from-line (word 3 0) (number_words l.first ++ map (λ a. memory_word (some a)) l.addresses) l.first (map (λ a. memory_word (some a)) l.addresses) l.addresses refl
    (bits_back 3 1 0 (omega arith) (omega arith)) (number-back l.first (map (λ a. memory_word (some a)) l.addresses) h.0) (addresses-back l.addresses h.1)
group_back (source s) h = from-source (word 4 0) (text_words s) s refl (bits_back 4 1 0 (omega arith) (omega arith)) (text-back s h)
group_back (relocation r) h =
    from-relocation (word 5 r.address) (text_words r.name) r.address r.name (omega arith) (bits_back 5 (2 ^ 16) r.address (omega arith) h.0)
    (text-back r.name h.1)
