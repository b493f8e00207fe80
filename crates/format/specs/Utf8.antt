-- UTF-8 and White_Space, from the public tables (RFC 3629; Unicode, tables 3-6 and 3-7; the property White_Space): the bytes of a scalar
-- value, the character that a text begins with, and trimming. A text is its bytes. Assumes nothing.
use Rattle.std.specs.Prelude.{Bool, ◌&&◌, ◌||◌, List, [], ◌∷◌, ℕ, zero, suc, ◌+◌, ◌-◌, ◌*◌, ◌/◌, ◌%◌, ◌^◌, leb, ltb, eqb, if◌then◌else◌}
use Rattle.std.proofs.Math.Option.{Option, none, some, get_or}
use Rattle.format.specs.Basics.{and_then, is_some, is_empty}

-- both ends included
abbrev pub is_between : ℕ → ℕ → ℕ → Bool
is_between low high x = leb low x && leb x high

-- scalar values: to x10FFFF, without the surrogates xD800 to xDFFF
unfoldable pub is_scalar : ℕ → Bool
is_scalar c = ltb c 0xD800 || is_between 0xE000 0x10FFFF c

-- the bytes of a scalar value (table 3-6)
unfoldable pub encode_scalar : ℕ → List ℕ
encode_scalar c =
    if ltb c 0x80 then c ∷ []
    else if ltb c 0x800 then (0xC0 + c / 2 ^ 6) ∷ (0x80 + c % 2 ^ 6) ∷ []
    else if ltb c 0x10000 then (0xE0 + c / 2 ^ 12) ∷ (0x80 + c / 2 ^ 6 % 2 ^ 6) ∷ (0x80 + c % 2 ^ 6) ∷ []
    else (0xF0 + c / 2 ^ 18) ∷ (0x80 + c / 2 ^ 12 % 2 ^ 6) ∷ (0x80 + c / 2 ^ 6 % 2 ^ 6) ∷ (0x80 + c % 2 ^ 6) ∷ []

-- the value of n bytes 10xxxxxx, six bits each, after the bits c
unfoldable pub follow : ℕ → ℕ → List ℕ → Option ℕ
follow zero c bs = some c
follow (suc n) c [] = none
follow (suc n) c (b ∷ bs) = if is_between 0x80 0xBF b then follow n (c * 2 ^ 6 + (b - 0x80)) bs else none

-- only the shortest form of a scalar value is well-formed (table 3-7): one that needs as many bytes as it has
abbrev pub shortest_form : ℕ → ℕ → Option ℕ → Option (ℕ × ℕ)
shortest_form least n none = none
shortest_form least n (some c) = if leb least c && is_scalar c then some (c, n) else none

-- the character that a text begins with: its scalar value, and how many bytes follow its first
unfoldable pub char_at : List ℕ → Option (ℕ × ℕ)
char_at [] = none
char_at (b ∷ bs) =
    if ltb b 0x80 then some (b, 0)
    else if is_between 0xC0 0xDF b then shortest_form 0x80 1 (follow 1 (b - 0xC0) bs)
    else if is_between 0xE0 0xEF b then shortest_form 0x800 2 (follow 2 (b - 0xE0) bs)
    else if is_between 0xF0 0xF7 b then shortest_form 0x10000 3 (follow 3 (b - 0xF0) bs)
    else none

-- the scalar values of a text, or none if it is not UTF-8; the number counts the bytes still to be passed over of the current character,
-- which is never longer than what is left
unfoldable pub scalars_from : ℕ → List ℕ → Option (List ℕ)
scalars_from k [] = some []
scalars_from zero (b ∷ bs) = and_then (char_at (b ∷ bs)) λ c. and_then (scalars_from c.1 bs) λ cs. some (c.0 ∷ cs)
scalars_from (suc k) (b ∷ bs) = scalars_from k bs

abbrev pub scalars : List ℕ → Option (List ℕ)  -- of a whole text
scalars bs = scalars_from 0 bs

-- the same of a text; nothing of what is not UTF-8, which no caller has
abbrev pub scalars_of : List ℕ → List ℕ
scalars_of bs = get_or (scalars bs) []

unfoldable pub is_utf8 : List ℕ → Bool  -- "Texts are UTF-8"
is_utf8 bs = is_some (scalars bs)

-- the number of characters of a text: of the bytes that are not 10xxxxxx
unfoldable pub characters : List ℕ → ℕ
characters [] = 0
characters (b ∷ bs) = if is_between 0x80 0xBF b then characters bs else suc (characters bs)

-- the Unicode property White_Space: 25 characters
unfoldable pub is_white_space : ℕ → Bool
is_white_space c =
    is_between 0x9 0xD c || eqb c 0x20 || eqb c 0x85 || eqb c 0xA0 || eqb c 0x1680 || is_between 0x2000 0x200A c || eqb c 0x2028
    || eqb c 0x2029 || eqb c 0x202F || eqb c 0x205F || eqb c 0x3000

-- how many bytes the White_Space character has that a text begins with; 0 if it begins with none
abbrev pub white_space_length : Option (ℕ × ℕ) → ℕ
white_space_length none = 0
white_space_length (some c) = if is_white_space c.0 then suc c.1 else 0

-- a text, or, past the first of n bytes, the rest of it
abbrev pub pass_over : ℕ → List ℕ → (ℕ → List ℕ) → List ℕ
pass_over zero bs rest = bs
pass_over (suc n) bs rest = rest n

-- a text less the White_Space at its start; the number counts the bytes still to be passed over of a character that is left out
unfoldable pub trim_from : ℕ → List ℕ → List ℕ
trim_from k [] = []
trim_from zero (b ∷ bs) = pass_over (white_space_length (char_at (b ∷ bs))) (b ∷ bs) (λ n. trim_from n bs)
trim_from (suc k) (b ∷ bs) = trim_from k bs

unfoldable pub trim_start : List ℕ → List ℕ  -- from the front
trim_start bs = trim_from 0 bs

unfoldable pub is_blank : List ℕ → Bool  -- White_Space only, or nothing
is_blank bs = is_empty (trim_start bs)

-- a text up to where only White_Space follows
unfoldable pub trim_end : List ℕ → List ℕ
trim_end [] = []
trim_end (b ∷ bs) = if is_blank (b ∷ bs) then [] else b ∷ trim_end bs

unfoldable pub trim : List ℕ → List ℕ  -- "Trim .. by White_Space"
trim bs = trim_end (trim_start bs)

unfoldable pub open-Utf8 : Unit {0}
unfolding is_scalar encode_scalar follow char_at scalars_from is_utf8 characters is_white_space trim_from trim_start is_blank trim_end trim
open-Utf8 = tt
