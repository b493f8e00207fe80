-- Stretches of a text's bytes, and whole words of them. Assumes nothing.
use mathlib.Core.Path.{◌≡◌, refl, sym, ◌∙◌, ap, ap₂, subst}
use mathlib.Core.List.{List, ◌∷◌, ◌++◌}
use Prim.Native.Nat.{ℕ, zero, suc, ◌+◌, ◌-◌, ◌*◌, ◌/◌, ◌%◌, ◌≤◌, ◌<◌}
use native.Mathlib.Omega.{arith}
use lib.ListN.{length, get_or, length-append, length-drop}
use borrow.Author.Rules.{part_to_end}
use lib.Dec.{ltb}
use borrow.Author.Tests.{ltb-true, ltb-false, lt-ltb, le-ltb}
use Rattle.format.proofs.ListLaws.{by_test}
use Rattle.writing.proofs.Parts.{State, Emits, rest, has_room}
use Rattle.object.specs.Texts.{text_byte, bytes_from, span_bytes, whole_words, EachByte, EachIn}
use Rattle.object.proofs.ByteLaws.{byte_0, byte_1, byte_2, bytes-here, bytes-length}

-- the three bytes of word k
module _ (ws : List ℕ) (at k : ℕ) where
  abbrev w : ℕ
  w = get_or ws (at + k) 0

  pub word_0 : text_byte ws at (3 * k) ≡ w % 256
  word_0 =
      let q : 3 * k / 3 ≡ k = omega arith in
      sym (byte_0 ws at (3 * k) (omega arith)) ∙ ap (λ (j : ℕ). get_or ws (at + j) 0 % 256) q

  pub word_1 : text_byte ws at (3 * k + 1) ≡ w / 256 % 256
  word_1 =
      let q : (3 * k + 1) / 3 ≡ k = omega arith in
      sym (byte_1 ws at (3 * k + 1) (omega arith)) ∙ ap (λ (j : ℕ). get_or ws (at + j) 0 / 256 % 256) q

  pub word_2 : text_byte ws at (3 * k + 1 + 1) ≡ w / 65536 % 256
  word_2 =
      let q : (3 * k + 1 + 1) / 3 ≡ k = omega arith in
      sym (byte_2 ws at (3 * k + 1 + 1) (omega arith)) ∙ ap (λ (j : ℕ). get_or ws (at + j) 0 / 65536 % 256) q

  -- what is left of a stretch begins with them
  pub word-here : (n : ℕ) → 3 * k + 2 < n
      → span_bytes ws at (3 * k) n ≡ w % 256 ∷ w / 256 % 256 ∷ w / 65536 % 256 ∷ span_bytes ws at (3 * (k + 1)) n
  word-here n h =
      let e : 3 * k + 1 + 1 + 1 ≡ 3 * (k + 1) = omega arith in
      let rest = span_bytes ws at (3 * (k + 1)) n in
      bytes-here ws at (3 * k) n (omega arith)
      ∙ ap₂ (λ (x : ℕ) (xs : List ℕ). x ∷ xs) word_0
      (bytes-here ws at (3 * k + 1) n (omega arith)
      ∙ ap₂ (λ (x : ℕ) (xs : List ℕ). x ∷ xs) word_1
      (bytes-here ws at (3 * k + 1 + 1) n (omega arith)
      ∙ ap₂ (λ (x : ℕ) (xs : List ℕ). x ∷ xs) word_2 (ap (λ (j : ℕ). span_bytes ws at j n) e)))

-- a stretch in two
pub span_split :
    (ws : List ℕ) (at i m n : ℕ) → i ≤ m → m ≤ n → span_bytes ws at i n ≡ span_bytes ws at i m ++ span_bytes ws at m n
unfolding bytes_from
span_split ws at i m n h k = go (m - i) i refl h
  where
    go : (d i : ℕ) → m - i ≡ d → i ≤ m → span_bytes ws at i n ≡ span_bytes ws at i m ++ span_bytes ws at m n
    go zero i e h =
        let q : i ≡ m = omega arith in
        ap (λ (x : ℕ). span_bytes ws at x n) q ∙ ap (λ (x : ℕ). bytes_from ws at i x ++ span_bytes ws at m n) (sym e)
    go (suc d) i e h =
        bytes-here ws at i n (omega arith) ∙ ap (λ (xs : List ℕ). text_byte ws at i ∷ xs) (go d (i + 1) (omega arith) (omega arith))
        ∙ ap (λ (xs : List ℕ). xs ++ span_bytes ws at m n) (sym (bytes-here ws at i m (omega arith)))

pub span-length : (ws : List ℕ) (at i n : ℕ) → length (span_bytes ws at i n) ≡ n - i
span-length ws at i n = bytes-length ws at i (n - i)

-- a stretch that is to come has room in the rest that is lent
pub span-room :
    {whole room left : List ℕ} {s : State ℕ} (f : Emits whole room left s) (ws : List ℕ) (at i n : ℕ) (left' : List ℕ)
    → left ≡ span_bytes ws at i n ++ left'
    → n - i ≤ length (rest s)
span-room {s} f ws at i n left' e =
    rw (part_to_end s.out s.at, length-drop)
    (omega (arith, has_room f, ap length e, length-append (span_bytes ws at i n) left', span-length ws at i n))

-- whole words are words of the stretch, and are there
module _ (ws : List ℕ) (at n : ℕ) where
  pub whole-none : length ws ≤ at → 0 ≡ whole_words ws at n
  unfolding whole_words
  whole-none h =
      let e : length ws - at ≡ 0 = omega arith in
      by_test (ltb (length ws - at) (n / 3))
      (λ t. sym (rw t e))
      (λ t. let l = ltb-false (length ws - at) (n / 3) t in sym (rw t (omega arith)))

  pub whole-few : length ws - at < n / 3 → length ws - at ≡ whole_words ws at n
  unfolding whole_words
  whole-few h = sym (rw (lt-ltb (length ws - at) (n / 3) h) refl)

  pub whole-all : n / 3 ≤ length ws - at → n / 3 ≡ whole_words ws at n
  unfolding whole_words
  whole-all h = sym (rw (le-ltb (length ws - at) (n / 3) h) refl)

  pub whole-within : 3 * whole_words ws at n ≤ n
  whole-within =
      by_test (ltb (length ws - at) (n / 3))
      (λ t. let l = ltb-true (length ws - at) (n / 3) t in omega (arith, whole-few l))
      (λ t. let l = ltb-false (length ws - at) (n / 3) t in omega (arith, whole-all l))

  pub whole-there : (k : ℕ) → k < whole_words ws at n → at + whole_words ws at n ≤ length ws
  whole-there k h =
      by_test (ltb (length ws - at) (n / 3))
      (λ t. let l = ltb-true (length ws - at) (n / 3) t in omega (arith, whole-few l))
      (λ t. let l = ltb-false (length ws - at) (n / 3) t in omega (arith, whole-all l))

-- what holds of each byte
module _ (P : ℕ → Type 0) (ws : List ℕ) (at : ℕ) where
  pub each_none : (i : ℕ) → EachByte P ws at i i
  each_none i k a b = absurd (omega arith)

  pub each_join : (i m j : ℕ) → EachByte P ws at i m → EachByte P ws at m j → EachByte P ws at i j
  each_join i m j f g k a b =
      by_test (ltb k m) (λ t. f k a (ltb-true k m t)) (λ t. g k (ltb-false k m t) b)

  pub each_more : (i j : ℕ) → EachByte P ws at i j → P (text_byte ws at j) → EachByte P ws at i (j + 1)
  each_more i j f p k a b =
      by_test (ltb k j) (λ t. f k a (ltb-true k j t))
      (λ t. let h = ltb-false k j t in let e : j ≡ k = omega arith in subst (λ (x : ℕ). P (text_byte ws at x)) e p)

  pub each_word :
      (i k : ℕ) → EachByte P ws at i (3 * k) → EachIn P (get_or ws (at + k) 0) → EachByte P ws at i (3 * (k + 1))
  each_word i k f a =
      let e : 3 * k + 1 + 1 + 1 ≡ 3 * (k + 1) = omega arith in
      subst (EachByte P ws at i) e
      (each_more i (3 * k + 1 + 1)
      (each_more i (3 * k + 1) (each_more i (3 * k) f (subst P (sym (word_0 ws at k)) a.first)) (subst P (sym (word_1 ws at k)) a.second))
      (subst P (sym (word_2 ws at k)) a.third))
