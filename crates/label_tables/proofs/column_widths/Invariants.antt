use mathlib.Core.Path.{◌≡◌}
use Prim.Native.Nat.{◌-◌}
use lib.ListN.{length}
use Rattle.format.specs.TextWriter.{decimal, widest}
use Rattle.object.specs.Access.{label_at}
use Rattle.label_tables.specs.Rows.{name_at}
use Rattle.label_order.specs.Labels.{places_from}
use Rattle.label_tables.specs.Tables.{names_width, indices_width}
use Rattle.label_tables.proofs.column_widths.Given as goal

abbrev pub invariant-loop-p : goal.invariant-loop-p
invariant-loop-p l = (widest (λ p. length (name_at l.ws p)) l.widths.names (places_from l.ws l.at) ≡ names_width l.ws) × (widest (λ p. length (decimal (label_at l.ws p).start)) l.widths.indices (places_from l.ws l.at) ≡ indices_width l.ws)

abbrev pub decreases-loop-p : goal.decreases-loop-p
decreases-loop-p l = length l.ws - l.at
