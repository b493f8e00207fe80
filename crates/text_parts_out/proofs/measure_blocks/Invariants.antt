use mathlib.Core.Path.{◌≡◌}
use mathlib.Core.List.{List, flat_map}
use Prim.Native.Nat.{ℕ, ◌-◌}
use lib.ListN.{length}
use Rattle.measuring.specs.Room.{less_part}
use Rattle.text_parts_out.specs.Parts.{heads, leading, block_text}
use Rattle.text_parts_out.proofs.measure_blocks.Given as goal

abbrev text_from : List ℕ → ℕ → List ℕ
text_from ws at = flat_map (block_text ws) (leading ws (heads ws at))

abbrev pub invariant-loop-at : goal.invariant-loop-at
invariant-loop-at l = less_part l.left (text_from l.ws l.at) ≡ less_part l.room (text_from l.ws 0)

abbrev pub decreases-loop-at : goal.decreases-loop-at
decreases-loop-at l = length l.ws - l.at
