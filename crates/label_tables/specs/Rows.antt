-- The rows of the tables of labels by the labels' places in the words of an object, for every slice of words and every place. That they are
-- the rows of a well formed object's labels is said in proofs/TableLaws. Assumes nothing.
use Rattle.std.specs.Prelude.{List, ℕ, ◌+◌, length}
use Rattle.format.specs.ObjectFile.{Label}
use Rattle.format.specs.TextWriter.{text_line, symbol_row, label_row}
use Rattle.object.specs.Bodies.{body_at}
use Rattle.object.specs.Texts.{text_len, text_bytes}
use Rattle.object.specs.Access.{label_at}

-- the bytes of the text words from a place up to the next head
unfoldable pub bytes_at : List ℕ → ℕ → List ℕ
bytes_at ws at = text_bytes ws at (text_len ws at (at + length (body_at ws at)))

-- the name of the label at a place
abbrev pub name_at : List ℕ → ℕ → List ℕ
name_at ws p = bytes_at ws (p + 1 + 3)

-- the label at a place, with these bytes for a name
abbrev pub row_label : List ℕ → ℕ → Label
row_label ws p = record {
  name = name_at ws p;
  address = (label_at ws p).address;
  external = (label_at ws p).external;
  start = (label_at ws p).start;
}

-- a row of .SYMBOL
unfoldable pub symbol_line : List ℕ → ℕ → List ℕ
symbol_line ws p = text_line (symbol_row (row_label ws p))

-- a row of the label table, in columns of these widths
unfoldable pub label_line : ℕ → ℕ → List ℕ → ℕ → List ℕ
label_line names indices ws p = text_line (label_row names indices (row_label ws p))
