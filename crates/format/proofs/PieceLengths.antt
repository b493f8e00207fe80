-- How many bytes the pieces of a text have: what trimming leaves, lines, cells, numbers, and an unescaped text. Assumes nothing.
use mathlib.Core.Path.{◌≡◌, refl, ap}
use mathlib.Core.Bool.{Bool, true, ◌&&◌}
use mathlib.Core.List.{List, [], ◌∷◌, flat_map}
use mathlib.Core.Option.{Option, none, some}
use Prim.Native.Nat.{ℕ, zero, suc, ◌+◌, ◌^◌, ◌≤◌}
use native.Mathlib.Omega.{arith}
use lib.ListN.{length, length-append, length-drop, take, drop}
use lib.Dec.{ltb, eqb}
use borrow.Author.Tests.{eqb-true}
use Rattle.format.specs.Basics.{ascii, is_empty, keep, eqs, begins_with}
use Rattle.format.specs.Tokens.{tokens}
use Rattle.format.specs.Utf8.{is_between, encode_scalar, char_at, white_space_length, pass_over, trim_from, trim_start, is_blank, trim_end, trim}
use Rattle.format.specs.TextReader.{on_first, lines, kept_lines, digits_from, below_limit, parse_number, hex2u16, maybe_hex2u16}
use Rattle.format.specs.TextReader.{split_once, first_cell, splitn, cell_at}
use Rattle.format.specs.TextReader.{hex_digits, scalar_of, unicode_escape, after_backslash, unescape_at, unescape}
use Rattle.format.proofs.LineLaws.{is_kept}
use Rattle.format.proofs.ListLaws.{both, by_test}
use Rattle.format.proofs.Outcomes.{by_if, Gives, Holds, anything, gives_bind, gives_ask, holds_then}
use Rattle.format.proofs.Totals.{total}
use Rattle.format.proofs.Sizes.{bytes}

-- TRIMMING

pass_few : (n : ℕ) (bs : List ℕ) (rest : ℕ → List ℕ) → ((k : ℕ) → length (rest k) ≤ length bs) → length (pass_over n bs rest) ≤ length bs
pass_few zero bs rest h = omega arith
pass_few (suc n) bs rest h = h n

from-few : (k : ℕ) (bs : List ℕ) → length (trim_from k bs) ≤ length bs
unfolding trim_from
from-few k [] = omega arith
from-few zero (b ∷ bs) =
    pass_few (white_space_length (char_at (b ∷ bs))) (b ∷ bs) (λ n. trim_from n bs) (λ n. omega (arith, from-few n bs))
from-few (suc k) (b ∷ bs) = omega (arith, from-few k bs)

end-few : (bs : List ℕ) → length (trim_end bs) ≤ length bs
unfolding trim_end
end-few [] = omega arith
end-few (b ∷ bs) =
    by_if (λ (x : List ℕ). length x ≤ suc (length bs)) (is_blank (b ∷ bs)) _ _ (λ _. omega arith) (λ _. omega (arith, end-few bs))

pub trim-few : (bs : List ℕ) → length (trim bs) ≤ length bs
unfolding trim trim_start
trim-few bs = omega (arith, end-few (trim_from 0 bs), from-few 0 bs)

-- LINES

first-few : (b : ℕ) (ls : List (List ℕ)) → bytes (on_first b ls) ≡ suc (bytes ls)
unfolding on_first
first-few b [] = omega arith
first-few b (l ∷ ls) = omega arith

lines-few : (bs : List ℕ) → bytes (lines bs) ≤ length bs
unfolding lines
lines-few [] = omega arith
lines-few (b ∷ bs) =
    let i = lines-few bs in
    by_if (λ (x : List (List ℕ)). bytes x ≤ suc (length bs)) (eqb b 0x0A) _ _ (λ _. omega arith)
    (λ _. by_if (λ (x : List (List ℕ)). bytes x ≤ suc (length bs)) (eqb b 0x0D && begins_with (0x0A ∷ []) bs) _ _ (λ _. omega arith)
    (λ _. omega (arith, first-few b (lines bs))))

keep-few : (p : List ℕ → Bool) (ls : List (List ℕ)) → bytes (keep p ls) ≤ bytes ls
unfolding keep
keep-few p [] = omega arith
keep-few p (l ∷ ls) =
    by_if (λ (x : List (List ℕ)). bytes x ≤ length l + bytes ls) (p l) _ _ (λ _. omega (arith, keep-few p ls))
    (λ _. omega (arith, keep-few p ls))

pub kept-few : (bs : List ℕ) → bytes (kept_lines bs) ≤ length bs
unfolding kept_lines
kept-few bs = omega (arith, keep-few is_kept (lines (trim bs)), lines-few (trim bs), trim-few bs)

-- NUMBERS

pub begins-long : (xs ys : List ℕ) → begins_with xs ys ≡ true → length xs ≤ length ys
unfolding begins_with
begins-long [] ys e = omega arith
begins-long (x ∷ xs) [] e = let z : ◌≡◌ {A = ℕ} 0 1 = cc in absurd (omega arith)
begins-long (x ∷ xs) (y ∷ ys) e = omega (arith, begins-long xs ys (both (eqb x y) (begins_with xs ys) e).1)

eqs-long : (xs ys : List ℕ) → eqs xs ys ≡ true → length xs ≡ length ys
unfolding eqs
eqs-long [] [] e = refl
eqs-long [] (y ∷ ys) e = let z : ◌≡◌ {A = ℕ} 0 1 = cc in absurd (omega arith)
eqs-long (x ∷ xs) [] e = let z : ◌≡◌ {A = ℕ} 0 1 = cc in absurd (omega arith)
eqs-long (x ∷ xs) (y ∷ ys) e = ap suc (eqs-long xs ys (both (eqb x y) (eqs xs ys) e).1)

-- a number that is read has a byte, one in hex four
pub number-long : (base limit : ℕ) (bs : List ℕ) → Holds (λ _. 1 ≤ length bs) (parse_number base limit bs)
unfolding parse_number is_empty
number-long base limit [] = tt
number-long base limit (b ∷ bs) = go (below_limit limit (digits_from base 0 (b ∷ bs)))
  where
    go : (o : Option ℕ) → Holds (λ _. 1 ≤ suc (length bs)) o
    go none = tt
    go (some n) = omega arith

pub hex_long : (bs : List ℕ) → Holds (λ _. length bs ≡ 4) (hex2u16 bs)
unfolding hex2u16
hex_long bs =
    by_if (Holds (λ _. length bs ≡ 4)) (eqb (length bs) 4) _ _ (λ e. go (parse_number 16 (2 ^ 16) bs) (eqb-true (length bs) 4 e)) (λ _. tt)
  where
    go : (o : Option ℕ) → length bs ≡ 4 → Holds (λ _. length bs ≡ 4) o
    go none e = tt
    go (some n) e = e

pub maybe_long : (bs : List ℕ) → Holds (λ _. length bs ≡ 4) (maybe_hex2u16 bs)
unfolding maybe_hex2u16 ascii
maybe_long bs =
    by_if (Holds (λ _. length bs ≡ 4)) (eqs bs (ascii "????")) _ _ (λ e. eqs-long bs (ascii "????") e)
    (λ _. holds_then _ (λ _. length bs ≡ 4) (hex2u16 bs) _ (hex_long bs) λ v h. h)

-- CELLS, with the dividers between them

once_few : (bs : List ℕ) → Holds (λ p. length p.0 + 3 + length p.1 ≤ length bs) (split_once bs)
unfolding split_once ascii
once_few [] = tt
once_few (b ∷ bs) =
    by_if (Holds (λ p. length p.0 + 3 + length p.1 ≤ suc (length bs))) (begins_with (ascii " | ") (b ∷ bs)) _ _
    (λ e. omega (arith, begins-long (ascii " | ") (b ∷ bs) e, length-drop 3 (b ∷ bs)))
    (λ _. holds_then _ (λ p. length p.0 + 3 + length p.1 ≤ length bs) (split_once bs) _ (once_few bs) λ p h. omega (arith, h))

abbrev divided : List (List ℕ) → ℕ
divided cs = total (λ c. 3 + length c) cs

cells_few : (k : ℕ) (bs : List ℕ) → divided (splitn k bs) ≤ 3 + length bs
unfolding splitn
cells_few zero bs = omega arith
cells_few (suc k) bs = go (split_once bs) (once_few bs) (cells_few k)
  where
    go : (o : Option (List ℕ × List ℕ)) → Holds (λ p. length p.0 + 3 + length p.1 ≤ length bs) o
        → ((rest : List ℕ) → divided (splitn k rest) ≤ 3 + length rest) → divided (first_cell bs (λ rest. splitn k rest) o) ≤ 3 + length bs
    go none h i = omega arith
    go (some p) h i = omega (arith, i p.1)

module _ (n : ℕ) where
  -- the first two or three cells, and the divider before a second
  two : (cs : List (List ℕ)) → divided cs ≤ 3 + n → (1 ≤ length (cell_at 1 cs)) → length (cell_at 0 cs) + 3 + length (cell_at 1 cs) ≤ n
  two [] h k = absurd (omega arith)
  two (a ∷ []) h k = absurd (omega arith)
  two (a ∷ b ∷ cs) h k = omega arith

  three : (cs : List (List ℕ)) → divided cs ≤ 3 + n → length (cell_at 0 cs) + length (cell_at 1 cs) + length (cell_at 2 cs) ≤ n
  three [] h = omega arith
  three (a ∷ []) h = omega arith
  three (a ∷ b ∷ []) h = omega arith
  three (a ∷ b ∷ c ∷ cs) h = omega arith

module _ (l : List ℕ) where
  pub cells_two : (k : ℕ) → 1 ≤ length (cell_at 1 (splitn k l))
      → length (cell_at 0 (splitn k l)) + 3 + length (cell_at 1 (splitn k l)) ≤ length l
  cells_two k h = two (length l) (splitn k l) (cells_few k l) h

  pub cells_three : (k : ℕ) → length (cell_at 0 (splitn k l)) + length (cell_at 1 (splitn k l)) + length (cell_at 2 (splitn k l)) ≤ length l
  cells_three k = three (length l) (splitn k l) (cells_few k l)

-- UNESCAPING: no escape is shorter than what it stands for

pub encode_few : (v : ℕ) → length (encode_scalar v) ≤ 4
unfolding encode_scalar
encode_few v =
    by_test (ltb v 0x80) (λ t. rw t (omega arith))
    (λ a. by_test (ltb v 0x800) (λ t. rw (a, t) (omega arith))
    (λ b. by_test (ltb v 0x10000) (λ t. rw (a, b, t) (omega arith)) (λ t. rw (a, b, t) (omega arith))))

-- what a token has, and what is left after it, of n bytes
abbrev Paid : List ℕ → ℕ → List ℕ × ℕ → Type 0
Paid bs n t = length t.0 + length (drop t.1 bs) ≤ n

unicode_paid : (b : ℕ) (bs : List ℕ) → Gives (Paid (b ∷ bs) (suc (length (b ∷ bs)))) (unicode_escape bs)
unfolding unicode_escape ascii
unicode_paid b bs =
    gives_ask _ 30 (begins_with (ascii "{") bs) _ λ _.
    let n = hex_digits (drop 1 bs) in
    gives_ask _ 30 (is_between 1 6 n && begins_with (ascii "}") (drop (1 + n) bs)) _ λ e.
    gives_bind _ (λ _. Unit {0}) (scalar_of (digits_from 16 0 (take n (drop 1 bs)))) _
    (anything (scalar_of (digits_from 16 0 (take n (drop 1 bs))))) λ c _.
    let l = begins-long (ascii "}") (drop (1 + n) bs) (both (is_between 1 6 n) (begins_with (ascii "}") (drop (1 + n) bs)) e).1 in
    omega (arith, l, length-drop (1 + n) bs, length-drop (1 + (1 + n + 1)) (b ∷ bs), encode_few c)

backslash_paid : (bs : List ℕ) → Gives (Paid bs (suc (length bs))) (after_backslash bs)
unfolding after_backslash
backslash_paid [] = tt
backslash_paid (b ∷ bs) =
    let p = Gives (Paid (b ∷ bs) (suc (length (b ∷ bs)))) in
    by_if p (begins_with (ascii "t") (b ∷ bs)) _ _ (λ _. omega arith)
    (λ _. by_if p (begins_with (ascii "r") (b ∷ bs)) _ _ (λ _. omega arith)
    (λ _. by_if p (begins_with (ascii "n") (b ∷ bs)) _ _ (λ _. omega arith)
    (λ _. by_if p (begins_with (ascii "'") (b ∷ bs)) _ _ (λ _. omega arith)
    (λ _. by_if p (begins_with (ascii "\"") (b ∷ bs)) _ _ (λ _. omega arith)
    (λ _. by_if p (begins_with (ascii "\\") (b ∷ bs)) _ _ (λ _. omega arith)
    (λ _. by_if p (begins_with (ascii "u") (b ∷ bs)) _ _ (λ _. unicode_paid b bs) (λ _. tt)))))))

token_paid : (b : ℕ) (bs : List ℕ) → Gives (Paid bs (suc (length bs))) (unescape_at (b ∷ bs))
unfolding unescape_at
token_paid b bs = by_if (Gives (Paid bs (suc (length bs)))) (eqb b 0x5C) _ _ (λ _. backslash_paid bs) (λ _. omega arith)

tokens_paid : (k : ℕ) (bs : List ℕ) → Gives (λ ts. length (flat_map (λ t. t) ts) ≤ length (drop k bs)) (tokens unescape_at k bs)
unfolding tokens flat_map
tokens_paid k [] = omega arith
tokens_paid (suc k) (b ∷ bs) = tokens_paid k bs
tokens_paid zero (b ∷ bs) =
    gives_bind _ (Paid bs (suc (length bs))) (unescape_at (b ∷ bs)) _ (token_paid b bs) λ t p.
    gives_bind _ (λ ts. length (flat_map (λ t. t) ts) ≤ length (drop t.1 bs)) (tokens unescape_at t.1 bs) _
    (tokens_paid t.1 bs) λ ts q.
    omega (arith, p, q, length-append t.0 (flat_map (λ t. t) ts))

pub unescape-few : (bs : List ℕ) → Gives (λ s. length s ≤ length bs) (unescape bs)
unfolding unescape
unescape-few bs =
    gives_bind _ (λ ts. length (flat_map (λ t. t) ts) ≤ length bs) (tokens unescape_at 0 bs) _ (tokens_paid 0 bs) λ ts p. p
