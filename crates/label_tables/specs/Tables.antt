-- The tables of labels by the labels' places in the words of an object, and how long they are, for every slice of words. That they
-- are a well formed object's tables is said in proofs/TableLaws. Assumes nothing.
use mathlib.Core.List.{List, [], ◌++◌, flat_map}
use Rattle.std.specs.Prelude.{ℕ, length, if◌then◌else◌}
use Rattle.format.specs.Basics.{is_empty}
use Rattle.format.specs.Sorted.{sorted}
use Rattle.format.specs.TextWriter.{decimal, widest, text_line, symbol_header, label_header}
use Rattle.object.specs.Access.{label_at}
use Rattle.label_order.specs.Labels.{label_places, label_key}
use Rattle.label_order.specs.declared.By.TheVariants as by
use Rattle.label_tables.specs.declared.Table.{Table}
use Rattle.label_tables.specs.declared.Table.TheVariants as table
use Rattle.label_tables.specs.Rows.{name_at, symbol_line, label_line}

-- "Label column width is the longest name in bytes, at least 5"
unfoldable pub names_width : List ℕ → ℕ
names_width ws = widest (λ p. length (name_at ws p)) 5 (label_places ws)

unfoldable pub indices_width : List ℕ → ℕ  -- the longest index, at least 5
indices_width ws = widest (λ p. length (decimal (label_at ws p).start)) 5 (label_places ws)

-- a row of a table, of the label at a place
abbrev pub line_of : Table → List ℕ → ℕ → List ℕ
line_of table.Symbols ws = symbol_line ws
line_of (table.Labels widths) ws = label_line widths.names widths.indices ws

-- a table with rows for places in an order; empty without labels
unfoldable pub table_of : List ℕ → (ℕ → List ℕ) → List ℕ → List ℕ → List ℕ
table_of header line ps order = if is_empty ps then [] else text_line header ++ flat_map line order

-- the header and the rows of .SYMBOL, with rows in an order
abbrev pub symbols_in : List ℕ → List ℕ → List ℕ
symbols_in ws order = table_of symbol_header (symbol_line ws) (label_places ws) order

-- and of the label table
abbrev pub labels_in : List ℕ → List ℕ → List ℕ
labels_in ws order =
    table_of (label_header (names_width ws) (indices_width ws)) (label_line (names_width ws) (indices_width ws) ws) (label_places ws) order

-- the places in the order of address, then name, and of source start, then name
abbrev pub by_address : List ℕ → List ℕ
by_address ws = sorted (label_key by.Address ws) (label_places ws)

abbrev pub by_start : List ℕ → List ℕ
by_start ws = sorted (label_key by.Start ws) (label_places ws)

-- the tables
abbrev pub symbols_of : List ℕ → List ℕ
symbols_of ws = symbols_in ws (by_address ws)

abbrev pub labels_of : List ℕ → List ℕ
labels_of ws = labels_in ws (by_start ws)

-- how long they are with every label in its place; no two labels of a well formed object have the same key
abbrev pub symbols_length : List ℕ → ℕ
symbols_length ws = length (symbols_in ws (label_places ws))

abbrev pub columns_length : ℕ → ℕ → List ℕ → ℕ  -- in columns of these widths
columns_length names indices ws =
    length (table_of (label_header names indices) (label_line names indices ws) (label_places ws) (label_places ws))

abbrev pub labels_length : List ℕ → ℕ
labels_length ws = columns_length (names_width ws) (indices_width ws) ws
