-- "Line and source tables (001)": lines of a source, and line blocks asked by line and by address. A source is its bytes; line numbers,
-- source byte indices and memory addresses are plain numbers here and separate types in the code. Assumes nothing.
use Rattle.std.specs.Prelude.{List, [], ◌∷◌, ℕ, zero, suc, ◌+◌, ◌-◌, ◌%◌, ◌^◌, min, length, take, drop, get_or, leb, ltb, eqb, if◌then◌else◌}
use Rattle.std.proofs.Math.Option.{Option, none, some, or_else}
use Rattle.std.proofs.Math.ListN.{get_elem?}
use Rattle.format.specs.Basics.{Outcome, given, ◌>>=◌, ask, and_then}
use Rattle.format.specs.Utf8.{trim_start, trim_end}
use Rattle.format.specs.ObjectFile.{LineBlock}

-- "Newlines end lines; line count is newlines + 1."
unfoldable pub newlines : List ℕ → ℕ
newlines [] = 0
newlines (b ∷ bs) = if eqb b 10 then suc (newlines bs) else newlines bs

unfoldable pub line_count : List ℕ → ℕ  -- "line count is newlines + 1"
line_count s = suc (newlines s)

-- 001's `nl_indices`, where each line ends: at its newline, the last at the source's end; i is the place of the list's start
unfoldable pub nl_indices_from : ℕ → List ℕ → List ℕ
nl_indices_from i [] = i ∷ []
nl_indices_from i (b ∷ bs) = if eqb b 10 then i ∷ nl_indices_from (suc i) bs else nl_indices_from (suc i) bs

unfoldable pub nl_indices : List ℕ → List ℕ  -- of a whole source
nl_indices s = nl_indices_from 0 s

-- a range of source byte indices, its end not included
pub record Span : Type 0 where
  pub start : ℕ
  pub end : ℕ

-- where a line below the line count starts (of others nothing is asked)
abbrev pub line_start : List ℕ → ℕ → ℕ
line_start s zero = 0
line_start s (suc line) = suc (get_or (nl_indices s) line 0)

-- "`raw_line_span` includes the newline", and does not go past the source's end. "For line spans: is the line below the line count? 5"
unfoldable pub raw_line_span : List ℕ → ℕ → Outcome Span
raw_line_span s line = do
  _ ← ask 5 (ltb line (line_count s))
  given (record { start = line_start s line; end = min (suc (get_or (nl_indices s) line 0)) (length s) })

abbrev pub span_bytes : List ℕ → Span → List ℕ  -- the bytes of a range
span_bytes s r = take (r.end - r.start) (drop r.start s)

-- less White_Space at the end and then at the start: "a blank line gives the empty range at its start"
unfoldable pub trimmed : List ℕ → Span → Span
trimmed s r =
    let line = trim_end (span_bytes s r) in
    record { start = r.start + (length line - length (trim_start line)); end = r.start + length line }

-- "`line_span` trims White_Space"
unfoldable pub line_span : List ℕ → ℕ → Outcome Span
line_span s line = raw_line_span s line >>= λ r. given (trimmed s r)

pub record Position : Type 0 where  -- what `get_pos_pair` gives
  pub line : ℕ
  pub column : ℕ

-- how many of the numbers are below i
unfoldable pub count_below : ℕ → List ℕ → ℕ
count_below i [] = 0
count_below i (x ∷ xs) = if ltb x i then suc (count_below i xs) else count_below i xs

-- the line in which an index stands, and how far it is from the line's start; "`get_pos_pair` past the end gives (line count, index)"
unfoldable pub get_pos_pair : List ℕ → ℕ → Position
get_pos_pair s i =
    let line = count_below i (nl_indices s) in
    record { line = line; column = if ltb line (line_count s) then i - line_start s line else i }

-- the last line block that begins at or before the line
unfoldable pub last_starting : ℕ → List LineBlock → Option LineBlock
last_starting line [] = none
last_starting line (l ∷ ls) = or_else (last_starting line ls) (if leb l.first line then some l else none)

-- "`get`: as 001": a line's address, if the last line block that begins at or before the line has it
unfoldable pub get_address : List LineBlock → ℕ → Option ℕ
get_address ls line = and_then (last_starting line ls) λ l. get_elem? l.addresses (line - l.first)

-- the first place of a number in a list
unfoldable pub offset_of : ℕ → List ℕ → Option ℕ
offset_of a [] = none
offset_of a (x ∷ xs) = if eqb x a then some 0 else and_then (offset_of a xs) λ i. some (suc i)

-- "`find`: first block having the address, lowest line in it ..; a line past the largest 64-bit value comes wrapped"
unfoldable pub find_line : List LineBlock → ℕ → Option ℕ
find_line [] a = none
find_line (l ∷ ls) a = or_else (and_then (offset_of a l.addresses) λ i. some ((l.first + i) % 2 ^ 64)) (find_line ls a)

unfoldable pub open-Source : Unit {0}
unfolding newlines line_count nl_indices_from nl_indices raw_line_span trimmed line_span count_below get_pos_pair last_starting get_address offset_of
    find_line or_else
open-Source = tt
