-- What the scanner's calls find at a place of the input, said of the rest of the input from that place.
-- Assumes nothing.
use Rattle.std.specs.Prelude.{Option, Some, None, ◌≡◌, Bool, false, ◌&&◌, not, List, [], ◌∷◌, ℕ, suc, ◌+◌, ◌≤◌, ◌<◌, length, drop, get_or, eqb, ltb, if◌then◌else◌}
use Rattle.format.specs.Basics.{ascii, keep, begins_with}
use Rattle.format.specs.Utf8.{is_blank}
use Rattle.format.specs.TextReader.{lines}
use Rattle.trim.specs.Span.{part}
use Rattle.text_lines.specs.declared.Line.{Line}

-- the bytes before the first LF
unfoldable pub line_length : List ℕ → ℕ
line_length [] = 0
line_length (b ∷ bs) = if eqb b 0x0A then 0 else suc (line_length bs)

-- a byte is not among the bytes from a place up to another, or it is
abbrev pub Lacks : ℕ → List ℕ → ℕ → ℕ → Type 0
Lacks b s a e = (i : ℕ) → a ≤ i → i < e → get_or s i 0 ≡ b → ⊥

abbrev pub Holds : ℕ → List ℕ → ℕ → ℕ → Type 0
Holds b s a e = (i : ℕ) × (a ≤ i) × (i < e) × (get_or s i 0 ≡ b)

-- THE LINK from places to lists of lines. f gives a text's lines; `Next f s at r`: r is the first of those from the place on, and
-- where the others start.
pub record LineAt (f : List ℕ → List (List ℕ)) (s : List ℕ) (at a e n : ℕ) : Type 0 where
  pub from : at ≤ a
  pub ordered : a ≤ e
  pub inside : e ≤ n
  pub on : at < n
  pub next : n ≤ length s
  pub same : f (drop at s) ≡ part a e s ∷ f (drop n s)

abbrev pub Next : (List ℕ → List (List ℕ)) → List ℕ → ℕ → Option Line → Type 0
Next f s at (Some l) = LineAt f s at l.start l.end l.next
Next f s at None = f (drop at s) ≡ []

abbrev pub begins_byte : ℕ → List ℕ → Bool
begins_byte b l = begins_with (b ∷ []) l

unfoldable pub is_kept : List ℕ → Bool
is_kept l = not (begins_with (ascii "#") l) && not (is_blank l)

-- a text's kept lines: of the trimmed file, `kept_lines` of the file
unfoldable pub kept : List ℕ → List (List ℕ)
kept t = keep is_kept (lines t)

-- an LF stands four bytes after a place
unfoldable pub is_four_long : List ℕ → ℕ → Bool
is_four_long t at = if ltb (length t) (at + 5) then false else eqb (get_or t (at + 4) 0) 0x0A
