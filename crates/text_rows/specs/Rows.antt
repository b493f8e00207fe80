-- The rows of a text file by kind: 0 the blocks of .TEXT, 1 the rows of .SYMBOL, 2 those of .LINKER_INFO, 3 those of .DEBUG's label table.
-- What a row says stands for every text: a number that doesn't read is 0. Of a file that reads, these are what the reader puts in its
-- object. Assumes nothing.
use Rattle.std.specs.Prelude.{Bool, false, ◌&&◌, not, ℕ, zero, suc, drop, get_or, eqb, if◌then◌else◌}
use mathlib.Core.List.{List, [], ◌∷◌, ◌++◌, map, flat_map}
use Rattle.std.proofs.Math.Option.{Option, none, some}
use Rattle.format.specs.Utf8.{trim}
use Rattle.format.specs.Sorted.{order, by_ordering}
use Rattle.format.specs.TextReader.{hex2u16, parse_decimal, splitn, is_bar}
use Rattle.format.specs.ObjectFile.{Block, Label, Relocation, block_key, label_key, relocation_key}
use Rattle.format.specs.Records.{Record, block, label, line_block, source, relocation}
use Rattle.text_lines.specs.Groups.{parts_from, kind_of}
use Rattle.text_blocks.specs.Blocks.{words_in}
use Rattle.text_rows.specs.declared.Kind.{Kind}
use Rattle.text_rows.specs.declared.Kind.TheVariants as kind

abbrev pub number_of : Kind → ℕ  -- a kind's number
number_of kind.Block = 0
number_of kind.Symbol = 1
number_of kind.Relocation = 2
number_of kind.Start = 3

abbrev pub or_zero : Option ℕ → ℕ  -- a number, or 0 where none is read
or_zero none = 0
or_zero (some n) = n

abbrev pub or_none : {A : Type 0} → Option (List A) → List A  -- a list, or the empty one
or_none none = []
or_none (some xs) = xs

unfoldable pub first_line : List (List ℕ) → List ℕ  -- the first line, or an empty one
first_line [] = []
first_line (l ∷ ls) = l

-- cell i of a row that is cut at its first k dividers at most, trimmed
unfoldable pub cell_of : ℕ → ℕ → List ℕ → List ℕ
cell_of k i l = trim (get_or (splitn k l) i [])

-- a block's count, from the lines after its address: "count u16"
unfoldable pub count_in : List (List ℕ) → ℕ
count_in ls = or_zero (parse_decimal 65536 (first_line ls))

-- the block that lines begin with
unfoldable pub block_row : List (List ℕ) → Block
block_row ls = record { address = or_zero (hex2u16 (first_line ls)); words = or_none (words_in (count_in (drop 1 ls)) (drop 2 ls)) }

-- ADDR, EXT and LABEL; "a label named in only one of its two tables has 0 for the other's fields"
unfoldable pub symbol_row : List ℕ → Label
symbol_row l =
    record { name = cell_of 2 2 l; address = or_zero (hex2u16 (cell_of 2 0 l)); external = not (eqb (or_zero (parse_decimal 256 (cell_of 2 1 l))) 0); start = 0 }

-- ADDR and LABEL
unfoldable pub linker_row : List ℕ → Relocation
linker_row l = record { address = or_zero (hex2u16 (cell_of 1 0 l)); name = cell_of 1 1 l }

-- LABEL and INDEX
unfoldable pub label_row : List ℕ → Label
label_row l = record { name = cell_of 1 0 l; address = 0; external = false; start = or_zero (parse_decimal 18446744073709551616 (cell_of 1 1 l)) }

-- the row of a kind that lines begin with
unfoldable pub row_in : ℕ → List (List ℕ) → Record
row_in kind ls =
    if eqb kind 0 then block (block_row ls)
    else if eqb kind 1 then label (symbol_row (first_line ls))
    else if eqb kind 2 then relocation (linker_row (first_line ls))
    else label (label_row (first_line ls))

-- "Blocks rise strictly by address, labels by name bytes, .. relocations by address": the key of a row among those of its kind
unfoldable pub row_key : Record → List ℕ
row_key (block b) = block_key b
row_key (label l) = label_key l
row_key (line_block l) = []
row_key (source s) = []
row_key (relocation r) = relocation_key r

-- how many lines a row has after its first: a block has its count and its entries
unfoldable pub lines_after : ℕ → List (List ℕ) → ℕ
lines_after kind ls = if eqb kind 0 then suc (count_in ls) else 0

-- the label table ends at the first line beginning `=`
abbrev pub ends_table : ℕ → List ℕ → Bool
ends_table kind l = eqb kind 3 && is_bar l

-- the rows of a table, from its first row on; the number counts the lines of the current row that are still to be passed over
unfoldable pub rows_in : ℕ → ℕ → List (List ℕ) → List Record
rows_in kind k [] = []
rows_in kind zero (l ∷ ls) = if ends_table kind l then [] else row_in kind (l ∷ ls) ∷ rows_in kind (lines_after kind ls) ls
rows_in kind (suc k) (l ∷ ls) = rows_in kind k ls

-- the lines under a table's header; .TEXT has none
unfoldable pub under_header : ℕ → List (List ℕ) → List (List ℕ)
under_header kind [] = []
under_header kind (l ∷ ls) = if eqb kind 0 then l ∷ ls else if ends_table kind l then [] else ls

-- the rows of a kind in a group
unfoldable pub group_rows : ℕ → List ℕ × List (List ℕ) → List Record
group_rows kind g = if eqb (kind_of g.0) kind then rows_in kind 0 (under_header kind g.1) else []

-- FROM A PLACE ON, where a row of the kind begins, or a table of it ends: the rows left of the table, and those of the groups after it
unfoldable pub rows_from : ℕ → List ℕ → ℕ → List Record
rows_from kind t at = rows_in kind 0 (parts_from t at).before ++ flat_map (group_rows kind) (parts_from t at).groups

-- the row that begins at a place
unfoldable pub row_at : ℕ → List ℕ → ℕ → Record
row_at kind t at = row_in kind (parts_from t at).before

-- all rows of a kind of a text, which is a trimmed file
unfoldable pub rows_of : ℕ → List ℕ → List Record
rows_of kind t = flat_map (group_rows kind) (parts_from t 0).groups

-- LABELS, of the rows of their two tables, each in the order of names: "Later rows set their own fields; a label named in only one of its
-- two tables has 0 for the other's fields"
abbrev pub only_symbol : Label → Label  -- of a row of .SYMBOL
only_symbol s = record { name = s.name; address = s.address; external = s.external; start = 0 }

abbrev pub only_start : Label → Label  -- of a row of the label table
only_start d = record { name = d.name; address = 0; external = false; start = d.start }

abbrev pub both_fields : Label → Label → Label  -- of both
both_fields s d = record { name = s.name; address = s.address; external = s.external; start = d.start }

-- a row of .SYMBOL goes before, with or after those of the label table
unfoldable pub join_one : Label → (List Label → List Label) → List Label → List Label
join_one s more [] = only_symbol s ∷ more []
join_one s more (d ∷ ds) =
    by_ordering (order (label_key s) (label_key d)) (only_symbol s ∷ more (d ∷ ds)) (both_fields s d ∷ more ds) (only_start d ∷ join_one s more ds)

unfoldable pub join_labels : List Label → List Label → List Label
join_labels [] ds = map only_start ds
join_labels (s ∷ ss) ds = join_one s (join_labels ss) ds

-- the labels' rows, as labels
unfoldable pub labels_in : List Record → List Label
labels_in [] = []
labels_in (block b ∷ rs) = labels_in rs
labels_in (label l ∷ rs) = l ∷ labels_in rs
labels_in (line_block l ∷ rs) = labels_in rs
labels_in (source s ∷ rs) = labels_in rs
labels_in (relocation r ∷ rs) = labels_in rs
