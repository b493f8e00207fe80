use mathlib.Core.Path.{◌≡◌}
use mathlib.Core.Bool.{true, false}
use Prim.Native.Nat.{◌≤◌}
use Rattle.text_lines.specs.Lines.{Lacks, Holds}
use Rattle.text_lines.proofs.has_byte.Given as goal

abbrev pub invariant-loop-i : goal.invariant-loop-i
invariant-loop-i l = (l.found ≡ false → Lacks l.byte l.s l.at l.i) × (l.found ≡ true → Holds l.byte l.s l.at l.i × (l.i ≤ l.end))
