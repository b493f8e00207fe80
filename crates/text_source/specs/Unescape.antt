-- Unescaping the source column, token by token.
-- Assumes nothing.
use Rattle.std.specs.Prelude.{Option, Some, None, Result, Ok, Err, ◌≡◌, ℕ, ◌+◌, ◌%◌, ◌^◌, ◌<◌, ◌≤◌, Bool, true, false, List, [], ◌∷◌, ◌++◌, length, drop, ◌==◌, ◌≢◌, nat_eq, slice_index, if◌then◌else◌}
use mathlib.Core.List.{flat_map}
use Rattle.format.specs.Basics.{Outcome, refused, given, ◌>>=◌, given_or}
use Rattle.format.specs.Calls.{Measured, refusal_of}
use Rattle.format.specs.Tokens.{tokens}
use Rattle.format.specs.Utf8.{encode_scalar, is_scalar}
use Rattle.format.specs.TextReader.{unescape_at, unicode_escape}
use Rattle.units.specs.declared.refusal.Refusal.{Refusal}
use Rattle.units.specs.Refusal.{number_of}
use Rattle.trim.specs.Span.{part}
use Rattle.text_source.specs.declared.Source.{Source}
use Rattle.text_source.specs.declared.Token.{Token}
use Rattle.text_source.specs.declared.Token.TheVariants as tk
use Rattle.text_source.specs.Stream.{bytes_left}

-- what a letter after a backslash stands for; 0 if for nothing
unfoldable pub escape_byte : ℕ → ℕ
escape_byte e =
    if 0x74 == e then 0x09
    else if 0x72 == e then 0x0D
    else if 0x6E == e then 0x0A
    else if 0x27 == e then 0x27
    else if 0x22 == e then 0x22
    else if 0x5C == e then 0x5C
    else 0

-- what is found of it: a byte, which is not 0, or nothing
abbrev pub LetterIs : ℕ → Option ℕ → Type 0
LetterIs e (Some x) = (x ≡ escape_byte e) × (x ≢ 0)
LetterIs e None = 0 ≡ escape_byte e

-- a byte after n digits that give v ends an escape
unfoldable pub ends_escape : ℕ → ℕ → ℕ → Bool
ends_escape b n v = if b == 0x7D then (if nat_eq n 0 then false else is_scalar v) else false

-- an escape after `\u`, and the cursor after it
pub record EscapeAt (t : List ℕ) (c : Source) (v : ℕ) (d : Source) : Type 0 where
  pub bytes : ℕ
  pub read : unicode_escape (bytes_left t c) ≡ given (encode_scalar v, 1 + bytes)
  pub rest : drop bytes (bytes_left t c) ≡ bytes_left t d
  pub scalar : is_scalar v ≡ true

abbrev pub NextEscape : List ℕ → Source → Option (ℕ × Source) → Type 0
NextEscape t c (Some p) = EscapeAt t c p.0 p.1
NextEscape t c None = unicode_escape (bytes_left t c) ≡ refused 30

-- the unescaped source left
abbrev pub tokens_left : List ℕ → Source → Outcome (List (List ℕ))
tokens_left t c = tokens unescape_at 0 (bytes_left t c)

-- from a place up to another there is no backslash
abbrev pub Plain : List ℕ → ℕ → ℕ → Type 0
Plain t a e = (i : ℕ) → a ≤ i → i < e → slice_index t i ≢ 0x5C

-- the next tokens, whose bytes these are
pub record TokenAt (t : List ℕ) (c : Source) (bs : List ℕ) (d : Source) : Type 0 where
  pub less : length (bytes_left t d) < length (bytes_left t c)
  pub parts : List (List ℕ)
  pub bytes : flat_map (λ x. x) parts ≡ bs
  pub same : tokens_left t c ≡ (tokens_left t d >>= λ ts. given (parts ++ ts))

-- a part of the unescaped source, and the cursor after it
abbrev pub TokenIs : List ℕ → Source → Token → Source → Type 0
TokenIs t c (tk.Stretch a e) d = (a ≤ e) × (e ≤ length t) × TokenAt t c (part a e t) d
TokenIs t c (tk.Plain b) d = TokenAt t c (b ∷ []) d
TokenIs t c (tk.Scalar v) d = TokenAt t c (encode_scalar v) d × (is_scalar v ≡ true)

abbrev pub NextToken : List ℕ → Source → Result (Option (Token × Source)) Refusal → Type 0
NextToken t c (Ok (Some p)) = TokenIs t c p.0 p.1
NextToken t c (Ok None) = bytes_left t c ≡ []
NextToken t c (Err r) = (number_of r ≡ 30) × (tokens_left t c ≡ refused 30)

-- what comes after a backslash, which stands before the cursor
abbrev pub Escapes : List ℕ → Source → Option (Token × Source) → Type 0
Escapes t d (Some p) = (c : Source) → bytes_left t c ≡ 0x5C ∷ bytes_left t d → TokenIs t c p.0 p.1
Escapes t d None = (c : Source) → bytes_left t c ≡ 0x5C ∷ bytes_left t d → tokens_left t c ≡ refused 30

-- the same after the `{`
abbrev pub NextDigits : List ℕ → Source → Option (ℕ × Source) → Type 0
NextDigits t c (Some p) =
    (n : ℕ) × (unicode_escape (0x7B ∷ bytes_left t c) ≡ given (encode_scalar p.0, 1 + (1 + n + 1)))
    × (drop (n + 1) (bytes_left t c) ≡ bytes_left t p.1) × (is_scalar p.0 ≡ true)
NextDigits t c None = unicode_escape (0x7B ∷ bytes_left t c) ≡ refused 30

-- the number of a text that is unescaped, and its length, as 64 bits count
abbrev pub UnescapedIs : Outcome (List ℕ) → Measured → Type 0
UnescapedIs o r = (r.number ≡ refusal_of o) × (r.len ≡ length (given_or o []) % 2 ^ 64)
