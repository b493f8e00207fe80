-- Two packed texts are in order as their words are. Assumes nothing.
use mathlib.Core.Path.{◌≡◌, refl, sym, ◌∙◌, ap}
use mathlib.Core.Bool.{Bool, true, false}
use mathlib.Core.List.{List, [], ◌∷◌, ◌++◌, append-nil}
use Prim.Native.Nat.{ℕ, zero, suc, ◌+◌, ◌*◌, ◌/◌, ◌%◌, ◌^◌, ◌≤◌, ◌<◌, compare, Ordering}
use native.Mathlib.Omega.{arith}
use lib.Dec.{ltb, eqb}
use borrow.Author.Tests.{lt-ltb, le-ltb, ltb-true, ltb-false, eqb-true, eqb-false}
use Rattle.format.specs.Basics.{Outcome, refused, given, ◌>>=◌, ask, given_or}
use Rattle.format.specs.Digits.{digits_of}
use Rattle.format.specs.Sorted.{order, is_less, then_by}
use Rattle.format.proofs.SortedLaws.{lt_of_compare, eq_of_compare, gt_of_compare, compare_self}
use Rattle.format.specs.Basics.{is_given}
use Rattle.format.specs.Words.{text_part, text_from}
use Rattle.format.proofs.Laws.{digits_length}
use Rattle.object.specs.Bodies.{rank_of, Text}
use Rattle.format.proofs.ListLaws.{by_test}
use Rattle.object.proofs.Tests.{clash}
use Rattle.object.proofs.TextLaws.{part_1, part_2, part_3, part-long, part-other}

-- the first of two lists, and two numbers that are in order as the lists are
pub stage : (x y r s : ℕ) (p q : List ℕ) → (x < y → r < s) → (y < x → s ≤ r) → (x ≡ y → is_less (order p q) ≡ ltb r s)
    → is_less (order (x ∷ p) (y ∷ q)) ≡ ltb r s
unfolding order
stage x y r s p q below above same = go (compare x y) refl
  where
    go : (o : Ordering) → compare x y ≡ o → is_less (then_by o (order p q)) ≡ ltb r s
    go Ordering.lt e = sym (lt-ltb r s (below (lt_of_compare x y e)))
    go Ordering.eq e = same (eq_of_compare x y e)
    go Ordering.gt e = sym (le-ltb r s (above (gt_of_compare x y e)))

ends-first : (y r s : ℕ) (q : List ℕ) → r < s → is_less (order [] (y ∷ q)) ≡ ltb r s
unfolding order
ends-first y r s q h = sym (lt-ltb r s h)

ends_last : (x r s : ℕ) (p : List ℕ) → s ≤ r → is_less (order (x ∷ p) []) ≡ ltb r s
unfolding order
ends_last x r s p h = sym (le-ltb r s h)

-- a text word of n bytes, and the bytes after it
pub record Word (w n : ℕ) (rest : List ℕ) : Type 0 where
  pub some : 1 ≤ n
  pub few : n ≤ 3
  pub top : w / 2 ^ 24 ≡ 0xE0 + n
  pub one : n ≤ 1 → w % 2 ^ 24 < 2 ^ 8
  pub two : n ≤ 2 → w % 2 ^ 24 < 2 ^ 16
  pub last : n < 3 → rest ≡ []

-- the bytes of a word, and its rank by them
abbrev b0 : ℕ → ℕ
b0 w = w % 2 ^ 8

abbrev b1 : ℕ → ℕ
b1 w = w / 2 ^ 8 % 2 ^ 8

abbrev b2 : ℕ → ℕ
b2 w = w / 2 ^ 8 / 2 ^ 8 % 2 ^ 8

rank-bytes : (w n : ℕ) → n ≤ 3 → w / 2 ^ 24 ≡ 0xE0 + n → rank_of w ≡ b0 w * 2 ^ 24 + b1 w * 2 ^ 16 + b2 w * 2 ^ 8 + n
rank-bytes w n f t =
    let e : w / 65536 % 256 ≡ b2 w = omega arith in
    let g : w / 2 ^ 24 % 4 ≡ n = omega arith in
    omega arith

whole_word : (w : ℕ) → w ≡ 2 ^ 24 * (w / 2 ^ 24) + 2 ^ 16 * b2 w + 2 ^ 8 * b1 w + b0 w
whole_word w = omega arith

same_word : (v w : ℕ) → v / 2 ^ 24 ≡ w / 2 ^ 24 → b0 v ≡ b0 w → b1 v ≡ b1 w → b2 v ≡ b2 w → v ≡ w
same_word v w t p q r = whole_word v ∙ rw (t, p, q, r) (sym (whole_word w))

pad_1 : (w : ℕ) → w % 2 ^ 24 < 2 ^ 8 → b1 w ≡ 0
pad_1 w h = omega arith

pad_2 : (w : ℕ) → w % 2 ^ 24 < 2 ^ 16 → b2 w ≡ 0
pad_2 w h = omega arith

record Bytes (a b c n : ℕ) : Type 0 where
  ha : a < 256
  hb : b < 256
  hc : c < 256
  hn : n ≤ 3

module _ (x0 x1 x2 n y0 y1 y2 m : ℕ) (x : Bytes x0 x1 x2 n) (y : Bytes y0 y1 y2 m) (s t : List ℕ) where
  abbrev R : ℕ
  R = x0 * 2 ^ 24 + x1 * 2 ^ 16 + x2 * 2 ^ 8 + n

  abbrev S : ℕ
  S = y0 * 2 ^ 24 + y1 * 2 ^ 16 + y2 * 2 ^ 8 + m

  abbrev Ranked : List ℕ → List ℕ → Type 0
  Ranked p q = is_less (order p q) ≡ ltb R S

  at_0 : (p q : List ℕ) → (x0 ≡ y0 → Ranked p q) → Ranked (x0 ∷ p) (y0 ∷ q)
  at_0 p q k = stage x0 y0 R S p q (λ h. omega arith) (λ h. omega arith) k

  at_1 : (p q : List ℕ) → x0 ≡ y0 → (x1 ≡ y1 → Ranked p q) → Ranked (x1 ∷ p) (y1 ∷ q)
  at_1 p q e k = stage x1 y1 R S p q (λ h. omega arith) (λ h. omega arith) k

  at_2 : (p q : List ℕ) → x0 ≡ y0 → x1 ≡ y1 → (x2 ≡ y2 → Ranked p q) → Ranked (x2 ∷ p) (y2 ∷ q)
  at_2 p q e f k = stage x2 y2 R S p q (λ h. omega arith) (λ h. omega arith) k

  short_1 : x1 ≡ 0 → x2 ≡ 0 → n < m → s ≡ [] → (q : List ℕ) → Ranked (x0 ∷ s) (y0 ∷ y1 ∷ q)
  short_1 p1 p2 h e q = at_0 s (y1 ∷ q) (λ a. ap (λ z. is_less (order z (y1 ∷ q))) e ∙ ends-first y1 R S q (omega arith))

  long_1 : y1 ≡ 0 → y2 ≡ 0 → m < n → t ≡ [] → (p : List ℕ) → Ranked (x0 ∷ x1 ∷ p) (y0 ∷ t)
  long_1 p1 p2 h e p = at_0 (x1 ∷ p) t (λ a. ap (λ z. is_less (order (x1 ∷ p) z)) e ∙ ends_last x1 R S p (omega arith))

  short_2 : x2 ≡ 0 → n < m → s ≡ [] → (q : List ℕ) → Ranked (x0 ∷ x1 ∷ s) (y0 ∷ y1 ∷ y2 ∷ q)
  short_2 p2 h e q =
      at_0 (x1 ∷ s) (y1 ∷ y2 ∷ q) (λ a. at_1 s (y2 ∷ q) a (λ b. ap (λ z. is_less (order z (y2 ∷ q))) e ∙ ends-first y2 R S q (omega arith)))

  long_2 : y2 ≡ 0 → m < n → t ≡ [] → (p : List ℕ) → Ranked (x0 ∷ x1 ∷ x2 ∷ p) (y0 ∷ y1 ∷ t)
  long_2 p2 h e p =
      at_0 (x1 ∷ x2 ∷ p) (y1 ∷ t) (λ a. at_1 (x2 ∷ p) t a (λ b. ap (λ z. is_less (order (x2 ∷ p) z)) e ∙ ends_last x2 R S p (omega arith)))

  same_1 : (x0 ≡ y0 → ⊥) → Ranked (x0 ∷ s) (y0 ∷ t)
  same_1 d = at_0 s t (λ a. absurd (d a))

  same_2 : (x0 ≡ y0 → x1 ≡ y1 → ⊥) → Ranked (x0 ∷ x1 ∷ s) (y0 ∷ y1 ∷ t)
  same_2 d = at_0 (x1 ∷ s) (y1 ∷ t) (λ a. at_1 s t a (λ b. absurd (d a b)))

  same_3 : (x0 ≡ y0 → x1 ≡ y1 → x2 ≡ y2 → ⊥) → Ranked (x0 ∷ x1 ∷ x2 ∷ s) (y0 ∷ y1 ∷ y2 ∷ t)
  same_3 d = at_0 (x1 ∷ x2 ∷ s) (y1 ∷ y2 ∷ t) (λ a. at_1 (x2 ∷ s) (y2 ∷ t) a (λ b. at_2 s t a b (λ c. absurd (d a b c))))

bytes_of : (w n : ℕ) → n ≤ 3 → Bytes (b0 w) (b1 w) (b2 w) n
bytes_of w n h = record { ha = omega arith; hb = omega arith; hc = omega arith; hn = h }

module _ (v w : ℕ) (differ : v ≡ w → ⊥) (s t : List ℕ) where
  abbrev Sorted : ℕ → ℕ → ℕ → ℕ → Type 0
  Sorted n m r q = is_less (order (digits_of 8 n v ++ s) (digits_of 8 m w ++ t)) ≡ ltb r q

  by_bytes : (n m : ℕ) → Word v n s → Word w m t
      → Sorted n m (b0 v * 2 ^ 24 + b1 v * 2 ^ 16 + b2 v * 2 ^ 8 + n) (b0 w * 2 ^ 24 + b1 w * 2 ^ 16 + b2 w * 2 ^ 8 + m)
  unfolding digits_of
  by_bytes zero m a b = absurd (omega (arith, a.some))
  by_bytes (suc zero) zero a b = absurd (omega (arith, b.some))
  by_bytes (suc (suc zero)) zero a b = absurd (omega (arith, b.some))
  by_bytes (suc (suc (suc zero))) zero a b = absurd (omega (arith, b.some))
  by_bytes (suc (suc (suc (suc n)))) m a b = absurd (omega (arith, a.few))
  by_bytes (suc zero) (suc (suc (suc (suc m)))) a b = absurd (omega (arith, b.few))
  by_bytes (suc (suc zero)) (suc (suc (suc (suc m)))) a b = absurd (omega (arith, b.few))
  by_bytes (suc (suc (suc zero))) (suc (suc (suc (suc m)))) a b = absurd (omega (arith, b.few))
  by_bytes (suc zero) (suc zero) a b =
      same_1 (b0 v) (b1 v) (b2 v) 1 (b0 w) (b1 w) (b2 w) 1 (bytes_of v 1 a.few) (bytes_of w 1 b.few) s t
      (λ p. differ (same_word v w (a.top ∙ sym b.top) p (pad_1 v (a.one (omega arith)) ∙ sym (pad_1 w (b.one (omega arith))))
      (pad_2 v (a.two (omega arith)) ∙ sym (pad_2 w (b.two (omega arith))))))
  by_bytes (suc zero) (suc (suc zero)) a b =
      short_1 (b0 v) (b1 v) (b2 v) 1 (b0 w) (b1 w) (b2 w) 2 (bytes_of v 1 a.few) (bytes_of w 2 b.few) s t
      (pad_1 v (a.one (omega arith))) (pad_2 v (a.two (omega arith))) (omega arith) (a.last (omega arith)) t
  by_bytes (suc zero) (suc (suc (suc zero))) a b =
      short_1 (b0 v) (b1 v) (b2 v) 1 (b0 w) (b1 w) (b2 w) 3 (bytes_of v 1 a.few) (bytes_of w 3 b.few) s t
      (pad_1 v (a.one (omega arith))) (pad_2 v (a.two (omega arith))) (omega arith) (a.last (omega arith)) (b2 w ∷ t)
  by_bytes (suc (suc zero)) (suc zero) a b =
      long_1 (b0 v) (b1 v) (b2 v) 2 (b0 w) (b1 w) (b2 w) 1 (bytes_of v 2 a.few) (bytes_of w 1 b.few) s t
      (pad_1 w (b.one (omega arith))) (pad_2 w (b.two (omega arith))) (omega arith) (b.last (omega arith)) s
  by_bytes (suc (suc (suc zero))) (suc zero) a b =
      long_1 (b0 v) (b1 v) (b2 v) 3 (b0 w) (b1 w) (b2 w) 1 (bytes_of v 3 a.few) (bytes_of w 1 b.few) s t
      (pad_1 w (b.one (omega arith))) (pad_2 w (b.two (omega arith))) (omega arith) (b.last (omega arith)) (b2 v ∷ s)
  by_bytes (suc (suc zero)) (suc (suc zero)) a b =
      same_2 (b0 v) (b1 v) (b2 v) 2 (b0 w) (b1 w) (b2 w) 2 (bytes_of v 2 a.few) (bytes_of w 2 b.few) s t
      (λ p q. differ (same_word v w (a.top ∙ sym b.top) p q (pad_2 v (a.two (omega arith)) ∙ sym (pad_2 w (b.two (omega arith))))))
  by_bytes (suc (suc zero)) (suc (suc (suc zero))) a b =
      short_2 (b0 v) (b1 v) (b2 v) 2 (b0 w) (b1 w) (b2 w) 3 (bytes_of v 2 a.few) (bytes_of w 3 b.few) s t
      (pad_2 v (a.two (omega arith))) (omega arith) (a.last (omega arith)) t
  by_bytes (suc (suc (suc zero))) (suc (suc zero)) a b =
      long_2 (b0 v) (b1 v) (b2 v) 3 (b0 w) (b1 w) (b2 w) 2 (bytes_of v 3 a.few) (bytes_of w 2 b.few) s t
      (pad_2 w (b.two (omega arith))) (omega arith) (b.last (omega arith)) s
  by_bytes (suc (suc (suc zero))) (suc (suc (suc zero))) a b =
      same_3 (b0 v) (b1 v) (b2 v) 3 (b0 w) (b1 w) (b2 w) 3 (bytes_of v 3 a.few) (bytes_of w 3 b.few) s t
      (λ p q r. differ (same_word v w (a.top ∙ sym b.top) p q r))

  -- two words that differ settle the order
  pub word-order : (n m : ℕ) → Word v n s → Word w m t → is_less (order (digits_of 8 n v ++ s) (digits_of 8 m w ++ t))
      ≡ ltb (rank_of v) (rank_of w)
  word-order n m a b = rw (rank-bytes v n a.few a.top, rank-bytes w m b.few b.top) (by_bytes n m a b)

-- equal words leave it to the rest
pub order_prefix : (xs s t : List ℕ) → order (xs ++ s) (xs ++ t) ≡ order s t
unfolding order
order_prefix [] s t = refl
order_prefix (x ∷ xs) s t = rw (compare_self x) (order_prefix xs s t)

-- a text's first word, and the text after it
pub record Split (w : ℕ) (xs : List ℕ) : Type 0 where
  pub count : ℕ
  pub word : Word w count (given_or (text_from xs) [])
  pub rest : is_given (text_from xs) ≡ true
  pub bytes : given_or (text_from (w ∷ xs)) [] ≡ digits_of 8 count w ++ given_or (text_from xs) []

pub record Part (w : ℕ) : Type 0 where
  pub count : ℕ
  pub part : text_part w ≡ given (digits_of 8 count w)
  pub some : 1 ≤ count
  pub few : count ≤ 3
  pub top : w / 2 ^ 24 ≡ 0xE0 + count
  pub one : count ≤ 1 → w % 2 ^ 24 < 2 ^ 8
  pub two : count ≤ 2 → w % 2 ^ 24 < 2 ^ 16

part_of : (w : ℕ) → is_given (text_part w) ≡ true → Part w
part_of w g =
    by_test (eqb (w / 2 ^ 24) 0xE3)
    (λ a. let e = eqb-true (w / 2 ^ 24) 0xE3 a in
    record {
      count = 3;
      part = part_3 w e;
      some = omega arith;
      few = omega arith;
      top = e;
      one = λ h. absurd (omega arith);
      two = λ
          h. absurd (omega arith);
    })
    (λ a. by_test (eqb (w / 2 ^ 24) 0xE2)
    (λ b. let e = eqb-true (w / 2 ^ 24) 0xE2 b in
    by_test (ltb (w % 2 ^ 24) (2 ^ 16))
    (λ d. let h = ltb-true (w % 2 ^ 24) (2 ^ 16) d in
    record {
      count = 2;
      part = part_2 w e h;
      some = omega arith;
      few = omega arith;
      top = e;
      one = λ h. absurd (omega arith);
      two = λ k. h;
    })
    (λ d. clash g (ap is_given (part-long w 2 e (omega arith) (omega arith) (ltb-false (w % 2 ^ 24) (2 ^ 16) d)))))
    (λ b. by_test (eqb (w / 2 ^ 24) 0xE1)
    (λ c. let e = eqb-true (w / 2 ^ 24) 0xE1 c in
    by_test (ltb (w % 2 ^ 24) (2 ^ 8))
    (λ d. let h = ltb-true (w % 2 ^ 24) (2 ^ 8) d in
    record { count = 1; part = part_1 w e h; some = omega arith; few = omega arith; top = e; one = λ k. h; two = λ k. omega arith })
    (λ d. clash g (ap is_given (part-long w 1 e (omega arith) (omega arith) (ltb-false (w % 2 ^ 24) (2 ^ 8) d)))))
    (λ c. clash g (ap is_given (part-other w (eqb-false (w / 2 ^ 24) 0xE3 a) (eqb-false (w / 2 ^ 24) 0xE2 b)
    (eqb-false (w / 2 ^ 24) 0xE1 c))))))

word_of : (w : ℕ) (rest : List ℕ) (p : Part w) → (p.count < 3 → rest ≡ []) → Word w p.count rest
word_of w rest p l = record { some = p.some; few = p.few; top = p.top; one = p.one; two = p.two; last = l }

given-first : {A B : Type 0} (o : Outcome A) (f : A → Outcome B) → is_given (o >>= f) ≡ true → is_given o ≡ true
given-first (refused n) f e = e
given-first (given a) f e = refl

text-cons : (w x : ℕ) (xs : List ℕ) (p : Part w)
    → text_from (w ∷ x ∷ xs) ≡ (ask 1 (eqb p.count 3) >>= λ _. text_from (x ∷ xs) >>= λ cs. given (digits_of 8 p.count w ++ cs))
unfolding text_from
text-cons w x xs p = rw (p.part, digits_length 8 p.count w)

pub split : (w : ℕ) (xs : List ℕ) → is_given (text_from (w ∷ xs)) ≡ true → Split w xs
unfolding text_from
split w [] g =
    let p = part_of w g in
    record {
      count = p.count;
      word = word_of w [] p (λ h. refl);
      rest = refl;
      bytes = ap (λ o. given_or o []) p.part
          ∙ sym (append-nil (digits_of 8 p.count w));
    }
split w (x ∷ xs) g =
    let p = part_of w (given-first (text_part w) _ g) in
    go p (eqb p.count 3) refl (text_from (x ∷ xs)) refl (text-cons w x xs p) g
  where
    go : (p : Part w) (b : Bool) → eqb p.count 3 ≡ b → (o : Outcome (List ℕ)) → text_from (x ∷ xs) ≡ o
        → text_from (w ∷ x ∷ xs) ≡ (ask 1 b >>= λ _. o >>= λ cs. given (digits_of 8 p.count w ++ cs))
        → is_given (text_from (w ∷ x ∷ xs)) ≡ true → Split w (x ∷ xs)
    go p false c o e f g = clash g (ap is_given f)
    go p true c (refused n) e f g = clash g (ap is_given f)
    go p true c (given cs) e f g =
        let k = eqb-true p.count 3 c in
        record {
          count = p.count;
          word = word_of w (given_or (text_from (x ∷ xs)) []) p (λ h. absurd (omega arith));
          rest = ap is_given e;
          bytes = ap (λ o. given_or o []) f ∙ ap (λ z. digits_of 8 p.count w ++ z) (sym (ap (λ o. given_or o []) e));
        }

abbrev pub bytes_in : List ℕ → List ℕ
bytes_in xs = given_or (text_from xs) []

-- two texts by their first words
pub texts_differ : (v w : ℕ) (xs ys : List ℕ) → Text (v ∷ xs) → Text (w ∷ ys) → (v ≡ w → ⊥)
    → is_less (order (bytes_in (v ∷ xs)) (bytes_in (w ∷ ys))) ≡ ltb (rank_of v) (rank_of w)
texts_differ v w xs ys p q d =
    let a = split v xs p in
    let b = split w ys q in
    rw (a.bytes, b.bytes) (word-order v w d (bytes_in xs) (bytes_in ys) a.count b.count a.word b.word)

pub texts-same : (v w : ℕ) (xs ys : List ℕ) → Text (v ∷ xs) → Text (w ∷ ys) → v ≡ w → order (bytes_in (v ∷ xs)) (bytes_in (w ∷ ys))
    ≡ order (bytes_in xs) (bytes_in ys)
texts-same v w xs ys p q e =
    let a = split v xs p in
    let b = split w ys q in
    let n : a.count ≡ b.count = omega (arith, a.word.top, b.word.top, e) in
    let d : digits_of 8 b.count w ≡ digits_of 8 a.count v = cc in
    rw (a.bytes, b.bytes, d) (order_prefix (digits_of 8 a.count v) (bytes_in xs) (bytes_in ys))

pub text-rest : (w : ℕ) (xs : List ℕ) → Text (w ∷ xs) → Text xs
text-rest w xs p = (split w xs p).rest

pub texts-first : (w : ℕ) (ys : List ℕ) → Text (w ∷ ys) → is_less (order (bytes_in []) (bytes_in (w ∷ ys))) ≡ true
unfolding text_from order digits_of
texts-first w ys q = let b = split w ys q in rw b.bytes (go b.count b.word.some)
  where
    go : (n : ℕ) → 1 ≤ n → is_less (order [] (digits_of 8 n w ++ bytes_in ys)) ≡ true
    go zero h = absurd (omega arith)
    go (suc n) h = refl

pub texts-end : (xs : List ℕ) → is_less (order xs (bytes_in [])) ≡ false
unfolding text_from order
texts-end [] = refl
texts-end (x ∷ xs) = refl
