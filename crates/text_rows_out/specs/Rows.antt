-- A row of the linker table by its cells. Assumes nothing.
use Rattle.std.specs.Prelude.{List, ℕ}
use Rattle.format.specs.TextWriter.{text_line, linker_row}

-- "ADDR | LABEL", with its newline
abbrev pub linker_line : ℕ → List ℕ → List ℕ
linker_line address name = text_line (linker_row (record { address = address; name = name }))
