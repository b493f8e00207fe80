-- A row of the line table by its cells. Assumes nothing.
use Rattle.std.specs.Prelude.{◌≡◌, List, [], ◌∷◌, ◌++◌, ℕ, ◌+◌, ◌≤◌, ◌<◌}
use Rattle.std.proofs.Math.Option.{Option}
use Rattle.format.specs.TextWriter.{decimal, to_right, memory_text, table_div, text_line, line_row}
use Rattle.object.specs.Texts.{text_byte, span_bytes}
use Rattle.word_chars.specs.Stretches.{Clear}
use Rattle.text_escape.specs.Escaped.{escaped_in}

-- "LINE | ADDR | SOURCE" in a column of this width, with its newline
abbrev pub line_line : ℕ → ℕ → Option ℕ → List ℕ → List ℕ
line_line width number address cell = text_line (line_row width (λ _. cell) (record { number = number; address = address }))

-- its first two cells, with the dividers after them
abbrev pub address_cell : Option ℕ → List ℕ
address_cell address = table_div ++ (memory_text address ++ table_div)

abbrev pub row_head : ℕ → ℕ → Option ℕ → List ℕ
row_head width number address = to_right width (decimal number) ++ address_cell address

-- a newline, escaped, and the end of a row
abbrev pub newline_bytes : List ℕ
newline_bytes = 0x5C ∷ 0x6E ∷ 0x0A ∷ []

-- the cell of a line of bytes that stand for themselves, from byte start up to its newline at byte j
abbrev pub plain_cell : List ℕ → ℕ → ℕ → ℕ → List ℕ
plain_cell ws at start j = span_bytes ws at start j ++ (0x5C ∷ 0x6E ∷ [])

pub record PlainLine (ws : List ℕ) (at n start j : ℕ) : Type 0 where
  pub on : start ≤ j
  pub clear : Clear ws at n start j
  pub ends : text_byte ws at j ≡ 10
  pub cell : escaped_in ws at start (j + 1) ≡ plain_cell ws at start j

-- a place before the end of a text of n bytes is the newline of such a line
abbrev pub PlainUpTo : List ℕ → ℕ → ℕ → ℕ → ℕ → Type 0
PlainUpTo ws at n start j = j < n → PlainLine ws at n start j
