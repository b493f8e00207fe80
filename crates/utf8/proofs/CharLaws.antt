-- The character at a place, by its first byte and those that follow. Assumes nothing.
use mathlib.Core.Path.{◌≡◌, sym, ◌∙◌, ap}
use mathlib.Core.Bool.{true, false}
use mathlib.Core.Logic.{◌⊎◌, inl, inr}
use mathlib.Core.List.{List, ◌∷◌}
use mathlib.Core.Option.{Option, none, some}
use Prim.Native.Nat.{ℕ, zero, suc, ◌+◌, ◌-◌, ◌*◌, ◌^◌, ◌≤◌, ◌<◌}
use native.Mathlib.Omega.{arith}
use native.Mathlib.Numerals.{add-one}
use lib.ListN.{length, drop, get_or, drop_of_length-le, length-drop}
use lib.Seq.{drop-cons}
use lib.Dec.{leb, ltb}
use borrow.Author.Tests.{lt-ltb, le-ltb, le-leb, lt-leb, leb-true, leb-false, ltb-true, ltb-false}
use Rattle.format.specs.Utf8.{char_at, follow, shortest_form, is_scalar}
use Rattle.format.proofs.ListLaws.{by_test}
use Rattle.format.proofs.Utf8Laws.{char_reads}

-- in a range, below it or above it
pub inside : {P : Type 0} (lo hi b : ℕ) → (lo ≤ b → b ≤ hi → P) → ((b < lo) ⊎ (hi < b) → P) → P
inside lo hi b f g =
    by_test (leb lo b) (λ p. by_test (leb b hi) (λ q. f (leb-true lo b p) (leb-true b hi q)) (λ q. g (inr (leb-false b hi q))))
    (λ p. g (inl (leb-false lo b p)))

pub follow_in : (n c b : ℕ) (bs : List ℕ) → 0x80 ≤ b → b ≤ 0xBF → follow (suc n) c (b ∷ bs) ≡ follow n (c * 2 ^ 6 + (b - 0x80)) bs
unfolding follow
follow_in n c b bs p q = simp (le-leb 0x80 b p, le-leb b 0xBF q)

pub follow_out : (n c b : ℕ) (bs : List ℕ) → (b < 0x80) ⊎ (0xBF < b) → follow (suc n) c (b ∷ bs) ≡ none
unfolding follow
follow_out n c b bs (inl p) = simp (lt-leb 0x80 b p)
follow_out n c b bs (inr q) = by_test (leb 0x80 b) (λ e. simp (e, lt-leb b 0xBF q)) (λ e. simp e)

pub scalar-low : (v : ℕ) → v < 0xD800 → is_scalar v ≡ true
unfolding is_scalar
scalar-low v h = simp (lt-ltb v 0xD800 h)

pub scalar-high : (v : ℕ) → 0xE000 ≤ v → v ≤ 0x10FFFF → is_scalar v ≡ true
unfolding is_scalar
scalar-high v h k = simp (le-ltb v 0xD800 (omega arith), le-leb 0xE000 v h, le-leb v 0x10FFFF k)

pub not_scalar : (v : ℕ) → 0xD800 ≤ v → (v < 0xE000) ⊎ (0x10FFFF < v) → is_scalar v ≡ false
unfolding is_scalar
not_scalar v h (inl k) = simp (le-ltb v 0xD800 h, lt-leb 0xE000 v k)
not_scalar v h (inr k) = simp (le-ltb v 0xD800 h, le-leb 0xE000 v (omega arith), lt-leb v 0x10FFFF k)

-- what the definition asks of the first byte
module _ (b : ℕ) (bs : List ℕ) where
  pub char_two : 0xC0 ≤ b → b ≤ 0xDF → char_at (b ∷ bs) ≡ shortest_form 0x80 1 (follow 1 (b - 0xC0) bs)
  unfolding char_at
  char_two h k = simp (le-ltb b 0x80 (omega arith), le-leb 0xC0 b h, le-leb b 0xDF k)

  pub char_three : 0xE0 ≤ b → b ≤ 0xEF → char_at (b ∷ bs) ≡ shortest_form 0x800 2 (follow 2 (b - 0xE0) bs)
  unfolding char_at
  char_three h k = simp (
    le-ltb b 0x80 (omega arith),
    le-leb 0xC0 b (omega arith),
    lt-leb b 0xDF (omega arith),
    le-leb 0xE0 b h,
    le-leb b
        0xEF k,
  )

  pub char_four : 0xF0 ≤ b → b ≤ 0xF7 → char_at (b ∷ bs) ≡ shortest_form 0x10000 3 (follow 3 (b - 0xF0) bs)
  unfolding char_at
  char_four h k =
      simp (
        le-ltb b 0x80 (omega arith),
        le-leb 0xC0 b (omega arith),
        lt-leb b 0xDF (omega arith),
        le-leb 0xE0 b (omega arith),
        lt-leb b
            0xEF (omega arith),
        le-leb 0xF0 b h,
        le-leb b 0xF7 k,
      )

  pub char_over : 0xF7 < b → char_at (b ∷ bs) ≡ none
  unfolding char_at
  char_over h =
      simp (
        le-ltb b 0x80 (omega arith),
        le-leb 0xC0 b (omega arith),
        lt-leb b 0xDF (omega arith),
        le-leb 0xE0 b (omega arith),
        lt-leb b
            0xEF (omega arith),
        le-leb 0xF0 b (omega arith),
        lt-leb b 0xF7 h,
      )

-- the rest from a place: the byte there, and the rest after it
pub front : {A : Type 0} (d : A) (s : List A) (at : ℕ) → at < length s → drop at s ≡ get_or s at d ∷ drop (at + 1) s
front d s at h = rw add-one (drop-cons s at d h)

pub char_end : (s : List ℕ) (at : ℕ) → length s ≤ at → none ≡ char_at (drop at s)
unfolding char_at
char_end s at h = rw (drop_of_length-le s h)

-- five bits and those of k bytes that follow: below this
unfoldable pub room : ℕ → ℕ
room zero = 32
room (suc k) = 64 * room k

pub room-more : (k bits x : ℕ) → bits < room k → x < 64 → bits * 64 + x < room (k + 1)
unfolding room
room-more k bits x h l = rw add-one (let w : bits * 64 + x < 64 * room k = omega arith in w)

-- three bytes follow at most
pub room_small : (k : ℕ) → k ≤ 3 → room k ≤ 8388608
unfolding room
room_small zero h = omega arith
room_small (suc zero) h = omega arith
room_small (suc (suc zero)) h = omega arith
room_small (suc (suc (suc zero))) h = omega arith
room_small (suc (suc (suc (suc k)))) h = absurd (omega arith)

-- k of the n bytes that follow are read
module _ (s : List ℕ) (at n k bits : ℕ) (more : k < n) where
  left : follow (n - k) bits (drop (at + k) s) ≡ follow (suc (n - (k + 1))) bits (drop (at + k) s)
  left = let e : n - k ≡ suc (n - (k + 1)) = omega arith in ap (λ (m : ℕ). follow m bits (drop (at + k) s)) e

  pub follow-short : length s ≤ at + k → none ≡ follow (n - k) bits (drop (at + k) s)
  unfolding follow
  follow-short h = sym (left ∙ ap (follow (suc (n - (k + 1))) bits) (drop_of_length-le s h))

  module _ (there : at + k < length s) where
    pub follow-none : (get_or s (at + k) 0 < 0x80) ⊎ (0xBF < get_or s (at + k) 0) → none ≡ follow (n - k) bits (drop (at + k) s)
    follow-none o =
        sym
        (left ∙ ap (follow (suc (n - (k + 1))) bits) (front 0 s (at + k) there)
        ∙ follow_out (n - (k + 1)) bits (get_or s (at + k) 0) (drop (at + k + 1) s) o)

    pub follow-more : 0x80 ≤ get_or s (at + k) 0 → get_or s (at + k) 0 ≤ 0xBF
        → follow (n - (k + 1)) (bits * 64 + (get_or s (at + k) 0 - 0x80)) (drop (at + (k + 1)) s) ≡ follow (n - k) bits (drop (at + k) s)
    follow-more p q =
        let e : at + (k + 1) ≡ at + k + 1 = omega arith in
        ap (λ (i : ℕ). follow (n - (k + 1)) (bits * 64 + (get_or s (at + k) 0 - 0x80)) (drop i s)) e
        ∙ sym
        (left ∙ ap (follow (suc (n - (k + 1))) bits) (front 0 s (at + k) there)
        ∙ follow_in (n - (k + 1)) bits (get_or s (at + k) 0) (drop (at + k + 1) s) p q)

pub follow-all : (s : List ℕ) (at n k bits : ℕ) → n ≤ k → some bits ≡ follow (n - k) bits (drop (at + k) s)
unfolding follow
follow-all s at n k bits h =
    let e : 0 ≡ n - k = omega arith in ap (λ (m : ℕ). follow m bits (drop (at + k) s)) e

-- the shortest form, or none
module _ (least n c : ℕ) where
  pub form-short : c < least → none ≡ shortest_form least n (some c)
  form-short h = simp (lt-leb least c h)

  pub form-scalar : least ≤ c → is_scalar c ≡ true → some (c, n) ≡ shortest_form least n (some c)
  form-scalar h e = simp (le-leb least c h, e)

  pub form-none : least ≤ c → is_scalar c ≡ false → none ≡ shortest_form least n (some c)
  form-none h e = simp (le-leb least c h, e)

-- the character at a place, from its first byte
module _ (s : List ℕ) (at : ℕ) (there : at < length s) where
  pub char_from : {o : Option (ℕ × ℕ)} → char_at (get_or s at 0 ∷ drop (at + 1) s) ≡ o → o ≡ char_at (drop at s)
  char_from e = sym (ap char_at (front 0 s at there) ∙ e)

  pub char_form : (least n first : ℕ) {x : Option (ℕ × ℕ)} {o : Option ℕ} → x ≡ shortest_form least n o → o ≡ follow n first
      (drop (at + 1) s)
      → char_at (get_or s at 0 ∷ drop (at + 1) s) ≡ shortest_form least n (follow n first (drop (at + 1) s)) → x ≡ char_at (drop at s)
  char_form least n first e f g = e ∙ ap (shortest_form least n) f ∙ char_from g

-- a character lies in the text
pub char_inside : (s : List ℕ) (at v n : ℕ) → char_at (drop at s) ≡ some (v, n) → at + n < length s
char_inside s at v n e =
    by_test (ltb at (length s))
    (λ t. let h = ltb-true at (length s) t in
    let r = char_reads (get_or s at 0) (drop (at + 1) s) v n (ap char_at (sym (front 0 s at h)) ∙ e) in
    omega (arith, r.1, length-drop (at + 1) s))
    (λ t. let g = char_end s at (ltb-false at (length s) t) ∙ e in let z : ◌≡◌ {A = ℕ} 0 1 = cc in absurd (omega arith))
