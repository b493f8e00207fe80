use mathlib.Core.Path.{◌≡◌}
use mathlib.Core.List.{List, flat_map}
use Prim.Native.Nat.{ℕ, ◌-◌}
use lib.ListN.{length}
use Rattle.measuring.specs.Room.{less_part}
use Rattle.text_parts_out.specs.Parts.{heads, link_text}
use Rattle.text_parts_out.proofs.measure_relocations.Given as goal

abbrev rows_from : List ℕ → ℕ → List ℕ
rows_from ws at = flat_map (link_text ws) (heads ws at)

abbrev pub invariant-loop-at : goal.invariant-loop-at
invariant-loop-at l = less_part l.left (rows_from l.ws l.at) ≡ less_part l.room (rows_from l.ws l.from)

abbrev pub decreases-loop-at : goal.decreases-loop-at
decreases-loop-at l = length l.ws - l.at
