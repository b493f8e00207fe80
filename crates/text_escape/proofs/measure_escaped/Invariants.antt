use mathlib.Core.Path.{◌≡◌}
use Prim.Native.Nat.{◌-◌}
use Rattle.text_escape.specs.Escaped.{escaped_in}
use Rattle.measuring.specs.Room.{less_part}
use Rattle.text_escape.proofs.measure_escaped.Given as goal

abbrev pub invariant-loop-i : goal.invariant-loop-i
invariant-loop-i l = less_part l.left (escaped_in l.ws l.at l.i l.end) ≡ less_part l.room (escaped_in l.ws l.at l.start l.end)

abbrev pub decreases-loop-i : goal.decreases-loop-i
decreases-loop-i l = l.end - l.i
