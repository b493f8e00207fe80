-- A source line by line, in words: where a line starts is known from the line before it. Assumes nothing.
use Rattle.std.specs.Prelude.{◌≡◌, true, ℕ, suc, ◌+◌, ◌-◌, ◌≤◌, ◌<◌, length, take, drop, leb, if◌then◌else◌}
use mathlib.Core.List.{List, flat_map}
use Rattle.format.specs.Basics.{Outcome, refused}
use Rattle.format.specs.Utf8.{is_utf8}
use Rattle.format.specs.Source.{Span, raw_line_span}
use Rattle.format.specs.TextWriter.{Row, text_line, line_row, source_cell}
use Rattle.text_lines_out.specs.Merge.{smaller}
use Rattle.source_info.specs.Passing.{span, span_from}

-- the lines from one on that starts at a byte; past the source there are none
unfoldable pub line_from : List ℕ → ℕ → ℕ → Outcome Span
line_from s start k = if leb start (length s) then span_from start start k (drop start s) else refused 5

-- line m of the source starts at a byte; past the last line, one byte past the source
pub record At (s : List ℕ) (m start : ℕ) : Type 0 where
  pub spans : (k : ℕ) → line_from s start k ≡ raw_line_span s (m + k)
  pub sound : is_utf8 (drop start s) ≡ true
  pub near : start ≤ length s + 1

-- the line that starts at a byte ends where the next one starts
pub record Next (s : List ℕ) (start next : ℕ) : Type 0 where
  pub near : next ≤ length s + 1
  pub on : start ≤ length s → start ≤ smaller next (length s)
  pub past : length s < start → next ≡ length s + 1
  pub here : start ≤ length s → span start (smaller next (length s)) ≡ line_from s start 0
  pub later : (k : ℕ) → line_from s next k ≡ line_from s start (suc k)
  pub whole :
      is_utf8 (drop start s) ≡ true
      → (is_utf8 (take (smaller next (length s) - start) (drop start s)) ≡ true) × (is_utf8 (drop next s) ≡ true)

-- rows of the line table, a line each
unfoldable pub rows_text : ℕ → List ℕ → List Row → List ℕ
rows_text width s rows = flat_map (λ r. text_line (line_row width (source_cell s) r)) rows
