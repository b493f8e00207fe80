-- The bytes of a text by their places. Assumes nothing.
use mathlib.Core.Path.{◌≡◌, refl, sym, ◌∙◌, ap, subst}
use mathlib.Core.List.{List, [], ◌∷◌, ◌++◌}
use Prim.Native.Nat.{ℕ, zero, suc, ◌+◌, ◌-◌, ◌*◌, ◌/◌, ◌%◌, ◌^◌, ◌≤◌, ◌<◌}
use native.Mathlib.Omega.{arith}
use native.Mathlib.Numerals.{add-one}
use lib.ListN.{length, drop, get_or, length-append, get_or-eq_default}
use lib.Dec.{ltb}
use borrow.Author.Tests.{ltb-true, ltb-false, lt-ltb, le-ltb, le-leb, lt-leb}
use lib.Seq.{get_or-append-add, get_or-drop, ext_get_or}
use Rattle.format.specs.Digits.{digits_of}
use Rattle.format.specs.Tokens.{parts_at}
use Rattle.format.specs.Words.{is_head, text_from}
use Rattle.format.proofs.Laws.{digits_length}
use Rattle.object.specs.Bodies.{body_at, text_at, Text}
use Rattle.object.specs.Texts.{text_len, text_byte, bytes_from, text_bytes}
use Rattle.format.proofs.ListLaws.{by_test}
use Rattle.object.proofs.BodyLaws.{head-parts, body_parts, body_out, body_fits}
use Rattle.object.proofs.OrderLaws.{Word, Split, split, bytes_in}

-- the words that go on are the object's
before_at : (k : ℕ) (xs : List ℕ) → k < length (parts_at is_head xs).before → get_or (parts_at is_head xs).before k 0 ≡ get_or xs k 0
unfolding parts_at
before_at k [] h = refl
before_at k (x ∷ xs) h =
    by_test (is_head x)
    (λ e. let q = ap (λ p. p.before) (head-parts x xs e) in absurd (omega (arith, ap length q)))
    (λ e. let q = ap (λ p. p.before) (body_parts x xs e) in ap (λ l. get_or l k 0) q
    ∙ go k (subst (λ l. k < length l) q h) (λ j. before_at j xs))
  where
    go : (k : ℕ) → k < length (x ∷ (parts_at is_head xs).before)
        → ((j : ℕ) → j < length (parts_at is_head xs).before → get_or (parts_at is_head xs).before j 0 ≡ get_or xs j 0)
        → get_or (x ∷ (parts_at is_head xs).before) k 0 ≡ get_or (x ∷ xs) k 0
    go zero h ih = refl
    go (suc k) h ih = ih k (omega arith)

pub body_word : (ws : List ℕ) (at k : ℕ) → k < length (body_at ws at) → get_or (body_at ws at) k 0 ≡ get_or ws (at + k) 0
unfolding body_at
body_word ws at k h = before_at k (drop at ws) h ∙ get_or-drop at ws k 0

pub body_within : (ws : List ℕ) (at k : ℕ) → k < length (body_at ws at) → at + k < length ws
body_within ws at k h =
    by_test (ltb at (length ws))
    (λ t. let l = ltb-true at (length ws) t in omega (arith, body_fits ws at (omega arith)))
    (λ t. let l = ltb-false at (length ws) t in absurd (omega (arith, ap length (body_out ws at l))))

-- a text's length
split_size : (w : ℕ) (xs : List ℕ) (s : Split w xs) → length (bytes_in (w ∷ xs)) ≡ s.count + length (bytes_in xs)
split_size w xs s = ap length s.bytes ∙ length-append (digits_of 8 s.count w) (bytes_in xs)
    ∙ ap (λ n. n + length (bytes_in xs)) (digits_length 8 s.count w)

-- a word that others follow is full
full : (w x : ℕ) (xs : List ℕ) (h : Text (w ∷ x ∷ xs)) (s : Split w (x ∷ xs)) → s.count ≡ 3
full w x xs h s =
    by_test (ltb s.count 3)
    (λ t. let l = ltb-true s.count 3 t in
    let r = split x xs s.rest in
    absurd (omega (arith, ap length (s.word.last l), split_size x xs r, r.word.some)))
    (λ t. let l = ltb-false s.count 3 t in omega (arith, s.word.few))

pub text-size : (w : ℕ) (xs : List ℕ) → Text (w ∷ xs) → length (bytes_in (w ∷ xs)) ≡ length xs * 3 + get_or (w ∷ xs) (length xs) 0 / 2 ^ 24 % 4
unfolding text_from
text-size w [] h = let s = split w [] h in let t = s.word.top in let f = s.word.few in omega (arith, split_size w [] s)
text-size w (x ∷ xs) h =
    let s = split w (x ∷ xs) h in
    omega (arith, split_size w (x ∷ xs) s, full w x xs h s, text-size x xs s.rest)

pub no_text : length (bytes_in []) ≡ 0
unfolding text_from
no_text = refl

-- a text's bytes
first-bytes : (w n d : ℕ) (rest : List ℕ) → Word w n rest → d < 3 → d < length (digits_of 8 n w ++ rest)
    → get_or (digits_of 8 n w ++ rest) d 0 ≡ get_or (digits_of 8 3 w) d 0
unfolding digits_of
first-bytes w zero d rest a l h = absurd (omega (arith, a.some))
first-bytes w (suc zero) zero rest a l h = refl
first-bytes w (suc zero) (suc d) rest a l h = absurd (omega (arith, ap length (a.last (omega arith))))
first-bytes w (suc (suc zero)) zero rest a l h = refl
first-bytes w (suc (suc zero)) (suc zero) rest a l h = refl
first-bytes w (suc (suc zero)) (suc (suc d)) rest a l h = absurd (omega (arith, ap length (a.last (omega arith))))
first-bytes w (suc (suc (suc zero))) zero rest a l h = refl
first-bytes w (suc (suc (suc zero))) (suc zero) rest a l h = refl
first-bytes w (suc (suc (suc zero))) (suc (suc zero)) rest a l h = refl
first-bytes w (suc (suc (suc zero))) (suc (suc (suc d))) rest a l h = absurd (omega arith)
first-bytes w (suc (suc (suc (suc n)))) d rest a l h = absurd (omega (arith, a.few))

byte_at : (k d : ℕ) (xs : List ℕ) → d < 3 → Text xs → 3 * k + d < length (bytes_in xs)
    → (k < length xs) × (get_or (bytes_in xs) (3 * k + d) 0 ≡ get_or (digits_of 8 3 (get_or xs k 0)) d 0)
byte_at k d [] l t h = absurd (omega (arith, no_text))
byte_at zero d (w ∷ xs) l t h =
    let s = split w xs t in
    let e : 3 * 0 + d ≡ d = omega arith in (
      omega arith,
      ap (λ i. get_or (bytes_in (w ∷ xs)) i 0) e ∙ ap (λ l. get_or l d 0) s.bytes
          ∙ first-bytes w s.count d (bytes_in xs) s.word l (omega (arith, ap length s.bytes)),
    )
byte_at (suc k) d (w ∷ xs) l t h =
    let s = split w xs t in
    let ds = digits_of 8 s.count w in
    let three : s.count ≡ 3 =
    by_test (ltb s.count 3)
    (λ q. let m = ltb-true s.count 3 q in absurd (omega (arith, split_size w xs s, ap length (s.word.last m))))
    (λ q. let m = ltb-false s.count 3 q in omega (arith, s.word.few)) in
    let e : 3 * suc k + d ≡ length ds + (3 * k + d) = omega (arith, three, digits_length 8 s.count w) in
    let ih = byte_at k d xs l s.rest (omega (arith, split_size w xs s, three)) in (
      omega (arith, ih.0),
      ap (λ i. get_or (bytes_in (w ∷ xs)) i 0) e ∙ ap (λ l. get_or l (length ds + (3 * k + d)) 0) s.bytes
          ∙ get_or-append-add ds (bytes_in xs) (3 * k + d) 0 ∙ ih.1,
    )

-- byte i of the text at a place: in word i / 3, at i % 3
pub text_byte_lem : (ws : List ℕ) (at i : ℕ) → Text (body_at ws at) → i < length (text_at ws at) → text_byte ws at i ≡ get_or (text_at ws at) i 0
unfolding text_byte
text_byte_lem ws at i t h =
    let e : 3 * (i / 3) + i % 3 ≡ i = omega arith in
    let b = byte_at (i / 3) (i % 3) (body_at ws at) (omega arith) t (omega arith) in
    sym (ap (λ j. get_or (text_at ws at) j 0) (sym e) ∙ b.1 ∙ ap (λ v. get_or (digits_of 8 3 v) (i % 3) 0) (body_word ws at (i / 3) b.0))

-- a word's bytes as the code takes them out
module _ (ws : List ℕ) (at i : ℕ) where
  pub byte_none : length ws ≤ at + i / 3 → 0 ≡ text_byte ws at i
  unfolding text_byte digits_of
  byte_none h = sym (ap (λ w. get_or (digits_of 8 3 w) (i % 3) 0) (get_or-eq_default ws 0 h) ∙ go (i % 3))
    where
      go : (k : ℕ) → get_or (digits_of 8 3 0) k 0 ≡ 0
      go zero = refl
      go (suc zero) = refl
      go (suc (suc zero)) = refl
      go (suc (suc (suc k))) = refl

  pub byte_0 : i % 3 ≡ 0 → get_or ws (at + i / 3) 0 % 256 ≡ text_byte ws at i
  unfolding text_byte digits_of
  byte_0 e = rw e

  pub byte_1 : i % 3 ≡ 1 → get_or ws (at + i / 3) 0 / 256 % 256 ≡ text_byte ws at i
  unfolding text_byte digits_of
  byte_1 e = rw e

  pub byte_2 : i % 3 ≡ 2 → get_or ws (at + i / 3) 0 / 65536 % 256 ≡ text_byte ws at i
  unfolding text_byte digits_of
  byte_2 e =
      let w = get_or ws (at + i / 3) 0 in
      let q : w / 65536 % 256 ≡ w / 256 / 256 % 256 = omega arith in rw e q

-- the length of the text at a place
size_none : (xs : List ℕ) → length xs ≡ 0 → 0 ≡ length (bytes_in xs)
size_none [] e = sym no_text
size_none (x ∷ xs) e = absurd (omega arith)

size_some : (xs : List ℕ) (n : ℕ) → length xs ≡ suc n → Text xs → length (bytes_in xs) ≡ n * 3 + get_or xs n 0 / 2 ^ 24 % 4
size_some [] n e t = absurd (omega arith)
size_some (x ∷ xs) n e t = let q : length xs ≡ n = omega arith in text-size x xs t ∙ ap (λ m. m * 3 + get_or (x ∷ xs) m 0 / 2 ^ 24 % 4) q

pub len-none : (ws : List ℕ) (at end : ℕ) → end ≤ at → 0 ≡ text_len ws at end
unfolding text_len
len-none ws at end h = rw (le-ltb at end h)

pub len_out : (ws : List ℕ) (at end : ℕ) → at < end → length ws < end → 0 ≡ text_len ws at end
unfolding text_len
len_out ws at end h k = rw (lt-ltb at end h, lt-leb end (length ws) k)

pub len_some : (ws : List ℕ) (at end : ℕ) → at < end → end ≤ length ws → text_len ws at end
    ≡ (end - 1 - at) * 3 + get_or ws (end - 1) 0 / 2 ^ 24 % 4
unfolding text_len
len_some ws at end h k = rw (lt-ltb at end h, le-leb end (length ws) k)

pub text-len : (ws : List ℕ) (at : ℕ) → Text (body_at ws at) → text_len ws at (at + length (body_at ws at)) ≡ length (text_at ws at)
text-len ws at t = go (length (body_at ws at)) refl
  where
    go : (n : ℕ) → length (body_at ws at) ≡ n → text_len ws at (at + n) ≡ length (text_at ws at)
    go zero e = sym (len-none ws at (at + 0) (omega arith)) ∙ size_none (body_at ws at) e
    go (suc n) e =
        let w = body_within ws at n (omega (arith, e)) in
        let p : at + suc n - 1 - at ≡ n = omega arith in
        let q : at + suc n - 1 ≡ at + n = omega arith in
        len_some ws at (at + suc n) (omega arith) (omega arith)
        ∙ ap (λ k. k * 3 + get_or ws (at + suc n - 1) 0 / 2 ^ 24 % 4) p ∙ ap (λ k. n * 3 + get_or ws k 0 / 2 ^ 24 % 4) q
        ∙ ap (λ v. n * 3 + v / 2 ^ 24 % 4) (sym (body_word ws at n (omega (arith, e)))) ∙ sym (size_some (body_at ws at) n e t)

-- so many bytes from a place on
pub bytes-length : (ws : List ℕ) (at i n : ℕ) → length (bytes_from ws at i n) ≡ n
unfolding bytes_from
bytes-length ws at i zero = refl
bytes-length ws at i (suc n) = ap suc (bytes-length ws at (suc i) n)

pub bytes_at_lem : (ws : List ℕ) (at i n j : ℕ) → j < n → get_or (bytes_from ws at i n) j 0 ≡ text_byte ws at (i + j)
unfolding bytes_from
bytes_at_lem ws at i zero j h = absurd (omega arith)
bytes_at_lem ws at i (suc n) zero h = let e : i ≡ i + 0 = omega arith in ap (text_byte ws at) e
bytes_at_lem ws at i (suc n) (suc j) h = let e : suc i + j ≡ i + suc j = omega arith in bytes_at_lem ws at (suc i) n j (omega arith)
    ∙ ap (text_byte ws at) e

-- what is left from byte i on, for loops
pub bytes-here : (ws : List ℕ) (at i n : ℕ) → i < n → bytes_from ws at i (n - i) ≡ text_byte ws at i ∷ bytes_from ws at (i + 1) (n - (i + 1))
unfolding bytes_from
bytes-here ws at i n h =
    let e : n - i ≡ suc (n - (i + 1)) = omega arith in ap (bytes_from ws at i) e
    ∙ ap (λ k. text_byte ws at i ∷ bytes_from ws at k (n - (i + 1))) (sym (add-one i))

pub bytes-end : (ws : List ℕ) (at i n : ℕ) → n ≤ i → bytes_from ws at i (n - i) ≡ []
unfolding bytes_from
bytes-end ws at i n h = let e : n - i ≡ 0 = omega arith in ap (bytes_from ws at i) e

-- THE BYTES OF A TEXT, by their places
pub text-bytes : (ws : List ℕ) (at : ℕ) → Text (body_at ws at) → text_bytes ws at (length (text_at ws at)) ≡ text_at ws at
text-bytes ws at t =
    let n = length (text_at ws at) in
    let l = bytes-length ws at 0 n in
    ext_get_or 0 (text_bytes ws at n) (text_at ws at) l
    (λ j h. let k : j < n = omega (arith, l) in let e : 0 + j ≡ j = omega arith in
    bytes_at_lem ws at 0 n j k ∙ ap (text_byte ws at) e ∙ text_byte_lem ws at j t k)

text-short : (xs : List ℕ) → Text xs → length (bytes_in xs) ≤ 3 * length xs
text-short [] t = omega (arith, no_text)
text-short (w ∷ xs) t = let s = split w xs t in omega (arith, split_size w xs s, s.word.few, text-short xs s.rest)

pub text-within : (ws : List ℕ) (at : ℕ) → Text (body_at ws at) → length (text_at ws at) ≤ 3 * length ws
text-within ws at t =
    by_test (ltb at (length ws))
    (λ q. let l = ltb-true at (length ws) q in omega (arith, text-short (body_at ws at) t, body_fits ws at (omega arith)))
    (λ q. let l = ltb-false at (length ws) q in omega (arith, text-short (body_at ws at) t, ap length (body_out ws at l)))
