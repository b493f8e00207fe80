use Prim.Native.Nat.{◌-◌, ◌<◌}
use Rattle.text_rows.specs.Steps.{Headless}
use Rattle.text_rows.proofs.next_dot.Given as goal

abbrev pub invariant-loop-i : goal.invariant-loop-i
invariant-loop-i l = (l.at < l.i) × Headless l.t l.at (l.i - 1)
