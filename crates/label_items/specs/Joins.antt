-- Labels of .SYMBOL and of the label table, joined by name. Assumes nothing.
use Rattle.std.specs.Prelude.{Option, Some, None, Bool, true, false, if◌then◌else◌}
use Prim.Native.Nat.{Ordering}
use Rattle.format.specs.Sorted.{by_ordering}
use Rattle.label_items.specs.declared.Item.{Item}
use Rattle.label_items.specs.declared.Next.{Next}
use Rattle.label_items.specs.declared.Next.TheVariants as next

-- the tables that a label is from
pub record Tables : Type 0 where
  pub symbol : Bool
  pub start : Bool

abbrev pub tables_of : Next → Tables
tables_of next.Symbol = record { symbol = true; start = false }
tables_of next.Start = record { symbol = false; start = true }
tables_of next.Both = record { symbol = true; start = true }

abbrev pub next_tables : Option Next → Tables  -- those of the next label, or of none
next_tables (Some x) = tables_of x
next_tables None = record { symbol = false; start = false }

-- which tables the next label is from: the one with the lower name, or both
unfoldable pub chosen : Bool → Bool → Ordering → Tables
chosen false d o = record { symbol = false; start = d }
chosen true false o = record { symbol = true; start = false }
chosen true true o =
    by_ordering o (record { symbol = true; start = false }) (record { symbol = true; start = true }) (record { symbol = false; start = true })

-- the item of the next label: "a label named in only one of its two tables has 0 for the other's fields"
unfoldable pub joined_item : Tables → Item → Item → Item
joined_item x a b =
    if x.symbol then record { start = a.start; end = a.end; head = a.head; index = if x.start then b.index else 0 }
    else record { start = b.start; end = b.end; head = 0; index = b.index }
