-- Characters of text words, byte by byte. Assumes nothing.
use mathlib.Core.Path.{◌≡◌, sym, ap, ◌∙◌}
use mathlib.Core.List.{List, ◌∷◌}
use Prim.Native.Nat.{ℕ, ◌+◌, ◌-◌, ◌/◌, ◌%◌, ◌≤◌, ◌<◌}
use native.Mathlib.Omega.{arith}
use lib.ListN.{get_or}
use Rattle.format.specs.Utf8.{characters, is_between}
use Rattle.format.proofs.ListLaws.{by_test}
use Rattle.utf8.specs.Chars.{begins}
use Rattle.object.specs.Texts.{text_byte, bytes_from}
use Rattle.object.proofs.ByteLaws.{bytes-here, bytes-end, byte_0, byte_1, byte_2}

begins-more : (b : ℕ) (bs : List ℕ) → begins b + characters bs ≡ characters (b ∷ bs)
unfolding begins characters
begins-more b bs = by_test (is_between 0x80 0xBF b) (λ t. rw t (omega arith)) (λ t. rw t (omega arith))

pub count-here : (ws : List ℕ) (at i n : ℕ) → i < n
    → begins (text_byte ws at i) + characters (bytes_from ws at (i + 1) (n - (i + 1))) ≡ characters (bytes_from ws at i (n - i))
count-here ws at i n h =
    begins-more (text_byte ws at i) (bytes_from ws at (i + 1) (n - (i + 1))) ∙ ap characters (sym (bytes-here ws at i n h))

pub count_none : (ws : List ℕ) (at i n : ℕ) → n ≤ i → characters (bytes_from ws at i (n - i)) ≡ 0
unfolding characters
count_none ws at i n h = ap characters (bytes-end ws at i n h)

-- the three bytes of a word
pub count_word : (ws : List ℕ) (at i n r : ℕ) → i + 3 ≤ n → i % 3 ≡ 0 → let w = get_or ws (at + i / 3) 0 in
    r ≡ begins (w % 256) + begins (w / 256 % 256) + begins (w / 65536 % 256)
    → r + characters (bytes_from ws at (i + 3) (n - (i + 3))) ≡ characters (bytes_from ws at i (n - i))
count_word ws at i n r h z q =
    let e : i + 1 + 1 + 1 ≡ i + 3 = omega arith in
    let d1 : (i + 1) / 3 ≡ i / 3 = omega arith in
    let d2 : (i + 1 + 1) / 3 ≡ i / 3 = omega arith in
    omega (
      arith,
      q,
      count-here ws at i n (omega arith),
      count-here ws at (i + 1) n (omega arith),
      count-here ws at (i + 1 + 1) n (omega arith),
      ap begins (byte_0 ws at i z),
      ap (λ k. begins (get_or ws (at + k) 0 / 256 % 256)) d1,
      ap begins (byte_1 ws at (i + 1) (omega arith)),
      ap (λ k. begins (get_or ws (at + k) 0 / 65536 % 256)) d2,
      ap begins (byte_2 ws at (i + 1 + 1) (omega arith)),
      ap (λ k. characters (bytes_from ws at k (n - k))) e,
    )
