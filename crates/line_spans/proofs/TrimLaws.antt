-- A line less White_Space, by the bytes of a text in words. Assumes nothing.
use mathlib.Core.Path.{◌≡◌, refl, sym, ◌∙◌, ap, ap₂}
use mathlib.Core.Bool.{Bool, false}
use mathlib.Core.List.{List, ◌∷◌}
use Prim.Native.Nat.{ℕ, zero, suc, ◌+◌, ◌-◌, ◌≤◌, ◌<◌}
use native.Mathlib.Omega.{arith}
use lib.ListN.{length, take, drop, length-drop, drop_of_length-le}
use lib.Seq.{drop-drop}
use lib.Dec.{eqb}
use borrow.Author.Tests.{le-leb, lt-leb}
use Rattle.std.specs.Prelude.{if◌then◌else◌}
use Rattle.format.specs.Utf8.{char_at, white_space_length, trim_start, trim_end}
use Rattle.format.specs.Source.{span_bytes, trimmed}
use Rattle.trim.specs.WhiteSpace.{white_at, ends_white, white_before}
use Rattle.object.specs.Texts.{text_byte, bytes_from, text_bytes}
use Rattle.line_spans.specs.Spans.{TrimsStart, TrimsEnd}
use Rattle.word_chars.proofs.CharLaws.{size_is}

pub white_out : (s : List ℕ) (p : ℕ) → length s ≤ p → 0 ≡ white_at s p
unfolding char_at
white_out s p h = sym (ap (λ t. white_space_length (char_at t)) (drop_of_length-le s h))

-- a place of a line
pub white_line : (s : List ℕ) (start i p : ℕ) → start + i ≡ p → white_at (drop start s) i ≡ white_at s p
white_line s start i p e = ap (λ t. white_space_length (char_at t)) (drop-drop i start s ∙ ap (λ k. drop k s) e)

pub ends-short : (s : List ℕ) (k n : ℕ) → k < n → false ≡ ends_white s k n
ends-short s k n h = rw (lt-leb n k h)

pub ends-long : (s : List ℕ) (k n : ℕ) → n ≤ k → eqb (white_at s (k - n)) n ≡ ends_white s k n
ends-long s k n h = sym (rw (le-leb n k h))

-- parts of a text
bytes_drop : (ws : List ℕ) (at j i m : ℕ) → i ≤ m → drop i (bytes_from ws at j m) ≡ bytes_from ws at (j + i) (m - i)
unfolding bytes_from
bytes_drop ws at j zero m h = let e : j ≡ j + 0 = omega arith in let f : m ≡ m - 0 = omega arith in ap₂ (bytes_from ws at) e f
bytes_drop ws at j (suc i) zero h = absurd (omega arith)
bytes_drop ws at j (suc i) (suc m) h =
    let e : suc j + i ≡ j + suc i = omega arith in
    let f : m - i ≡ suc m - suc i = omega arith in
    bytes_drop ws at (suc j) i m (omega arith) ∙ ap₂ (bytes_from ws at) e f

bytes_take : (ws : List ℕ) (at j k m : ℕ) → k ≤ m → take k (bytes_from ws at j m) ≡ bytes_from ws at j k
unfolding bytes_from
bytes_take ws at j zero m h = refl
bytes_take ws at j (suc k) zero h = absurd (omega arith)
bytes_take ws at j (suc k) (suc m) h = ap (λ t. text_byte ws at j ∷ t) (bytes_take ws at (suc j) k m (omega arith))

-- the bytes from a to e, of e or more
part_is : (ws : List ℕ) (at a e n : ℕ) → a ≤ e → e ≤ n → take (e - a) (drop a (text_bytes ws at n)) ≡ drop a (text_bytes ws at e)
part_is ws at a e n h k =
    ap (take (e - a)) (bytes_drop ws at 0 a n (omega arith)) ∙ bytes_take ws at (0 + a) (e - a) (n - a) (omega arith)
    ∙ sym (bytes_drop ws at 0 a e h)

-- THE TRIMMED LINE
pub line-trimmed :
    (ws : List ℕ) (at n a e end start : ℕ) → a ≤ e → e ≤ n → TrimsEnd (text_bytes ws at e) a e end
    → TrimsStart (text_bytes ws at end) a end start
    → record { start = start; end = end } ≡ trimmed (text_bytes ws at n) (record { start = a; end = e })
unfolding trimmed
line-trimmed ws at n a e end start h k x y =
    let s = text_bytes ws at n in
    let line = trim_end (span_bytes s (record { start = a; end = e })) in
    let m = drop a (text_bytes ws at end) in
    let q : line ≡ m =
    ap trim_end (part_is ws at a e n h k) ∙ sym x.rest ∙ part_is ws at a end e x.low x.high in
    let l1 : length line ≡ end - a = ap length q ∙ length-drop a (text_bytes ws at end) ∙ ap (λ z. z - a) (size_is ws at end) in
    let l2 : length (trim_start line) ≡ end - start =
    ap (λ t. length (trim_start t)) q ∙ ap length (sym y.rest) ∙ length-drop start (text_bytes ws at end)
    ∙ ap (λ z. z - start) (size_is ws at end) in
    let p1 : start ≡ a + (length line - length (trim_start line)) = omega (arith, l1, l2, y.low, y.high, x.low) in
    let p2 : end ≡ a + length line = omega (arith, l1, x.low) in
    ap₂ (λ (u v : ℕ). record { start = u; end = v }) p1 p2

-- the first of three lengths that passes
module _ (s : List ℕ) (k : ℕ) where
  abbrev pick : Bool → Bool → Bool → ℕ
  pick a b c = if a then 1 else if b then 2 else if c then 3 else 0

  pub before_is : (a b c : Bool) → a ≡ ends_white s k 1 → b ≡ ends_white s k 2 → c ≡ ends_white s k 3 → pick a b c ≡ white_before s k
  unfolding white_before
  before_is a b c x y z = ap (λ t. pick t b c) x ∙ ap (λ t. pick (ends_white s k 1) t c) y
      ∙ ap (λ t. pick (ends_white s k 1) (ends_white s k 2) t) z
