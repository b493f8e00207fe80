-- The characters of a text in words. Assumes nothing.
use mathlib.Core.Path.{◌≡◌, refl, sym, ◌∙◌, ap}
use mathlib.Core.List.{List, [], ◌∷◌}
use mathlib.Core.Option.{none, some}
use Prim.Native.Nat.{ℕ, suc, ◌+◌, ◌≤◌, ◌<◌}
use native.Mathlib.Omega.{arith}
use lib.ListN.{length, drop, get_or, drop_of_length-le, get_or-eq_default}
use lib.Seq.{get_or-drop, drop-cons}
use Rattle.format.specs.Utf8.{char_at, follow}
use Rattle.format.proofs.Utf8Laws.{char_ascii, char_one}
use Rattle.object.specs.Texts.{text_byte, text_bytes}
use Rattle.object.proofs.ByteLaws.{bytes-length, bytes_at_lem}

pub size_is : (ws : List ℕ) (at n : ℕ) → length (text_bytes ws at n) ≡ n
size_is ws at n = bytes-length ws at 0 n

pub byte_is : (ws : List ℕ) (at n p : ℕ) → p < n → text_byte ws at p ≡ get_or (text_bytes ws at n) p 0
byte_is ws at n p h = let e : p ≡ 0 + p = omega arith in ap (text_byte ws at) e ∙ sym (bytes_at_lem ws at 0 n p h)

pub byte_out : (s : List ℕ) (p : ℕ) → length s ≤ p → 0 ≡ get_or s p 0
byte_out s p h = sym (get_or-eq_default s 0 h)

-- a character is known by four bytes, 0 past the end
four : (b : ℕ) (bs : List ℕ) → char_at (b ∷ get_or bs 0 0 ∷ get_or bs 1 0 ∷ get_or bs 2 0 ∷ []) ≡ char_at (b ∷ bs)
unfolding char_at follow
four b [] = char_ascii b [] (0 ∷ 0 ∷ []) 0 (omega arith)
four b (c ∷ []) = char_ascii b (c ∷ []) (0 ∷ []) 0 (omega arith)
four b (c ∷ d ∷ []) = char_ascii b (c ∷ d ∷ []) [] 0 (omega arith)
four b (c ∷ d ∷ e ∷ rest) = refl

pub char_four : (s : List ℕ) (p : ℕ) → p < length s
    → char_at (get_or s p 0 ∷ get_or s (p + 1) 0 ∷ get_or s (p + 2) 0 ∷ get_or s (p + 3) 0 ∷ []) ≡ char_at (drop p s)
char_four s p h =
    let bs = drop (suc p) s in
    let e0 : suc p + 0 ≡ p + 1 = omega arith in
    let e1 : suc p + 1 ≡ p + 2 = omega arith in
    let e2 : suc p + 2 ≡ p + 3 = omega arith in
    let g : (k j : ℕ) → suc p + k ≡ j → get_or s j 0 ≡ get_or bs k 0 = λ k j e. sym (get_or-drop (suc p) s k 0 ∙ ap (λ i. get_or s i 0) e) in
    ap (λ x. char_at (get_or s p 0 ∷ x ∷ get_or s (p + 2) 0 ∷ get_or s (p + 3) 0 ∷ [])) (g 0 (p + 1) e0)
    ∙ ap (λ x. char_at (get_or s p 0 ∷ get_or bs 0 0 ∷ x ∷ get_or s (p + 3) 0 ∷ [])) (g 1 (p + 2) e1)
    ∙ ap (λ x. char_at (get_or s p 0 ∷ get_or bs 0 0 ∷ get_or bs 1 0 ∷ x ∷ [])) (g 2 (p + 3) e2)
    ∙ four (get_or s p 0) bs ∙ ap char_at (sym (drop-cons s p 0 h))

pub char_out : (s : List ℕ) (p : ℕ) → length s ≤ p → none ≡ char_at (drop p s)
unfolding char_at
char_out s p h = sym (ap char_at (drop_of_length-le s h))

pub char_low : (s : List ℕ) (p b : ℕ) → p < length s → b ≡ get_or s p 0 → b < 0x80 → some (b, 0) ≡ char_at (drop p s)
char_low s p b h e l =
    sym (char_one b (drop (suc p) s) l) ∙ ap (λ x. char_at (x ∷ drop (suc p) s)) e ∙ ap char_at (sym (drop-cons s p 0 h))
