-- The tables of labels as they are written into any room: header and rows, each that still fits. Assumes nothing.
use Rattle.std.specs.Prelude.{List, [], ◌++◌, ℕ, ◌-◌, length, if◌then◌else◌}
use Rattle.format.specs.Basics.{is_empty}
use Rattle.format.specs.Sorted.{sorted}
use Rattle.format.specs.TextWriter.{text_line}
use Rattle.measuring.specs.Fitting.{keep, fitting}
use Rattle.label_order.specs.Labels.{label_places, label_key}
use Rattle.label_order.specs.declared.By.{By}
use Rattle.label_order.specs.declared.By.TheVariants as by
use Rattle.label_tables.specs.declared.Table.{Table}
use Rattle.label_tables.specs.declared.Table.TheVariants as table

-- what a table's labels are sorted by
abbrev pub by_of : Table → By
by_of table.Symbols = by.Address
by_of (table.Labels widths) = by.Start

-- the labels' places in the order of a table
abbrev pub places_of : Table → List ℕ → List ℕ
places_of t ws = sorted (label_key (by_of t) ws) (label_places ws)

-- a table with rows for places in an order; nothing without labels
unfoldable pub table_fitting : List ℕ → (ℕ → List ℕ) → List ℕ → List ℕ → ℕ → List ℕ
table_fitting header line ps order room =
    if is_empty ps then []
    else keep room (text_line header) ++ fitting line (room - length (keep room (text_line header))) order
