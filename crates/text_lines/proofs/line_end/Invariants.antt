use mathlib.Core.Path.{◌≡◌}
use Prim.Native.Nat.{◌+◌, ◌≤◌}
use lib.ListN.{drop}
use Rattle.text_lines.specs.Lines.{line_length}
use Rattle.text_lines.proofs.line_end.Given as goal

abbrev pub invariant-loop-i : goal.invariant-loop-i
invariant-loop-i l = (l.at ≤ l.i) × (l.i + line_length (drop l.i l.s) ≡ l.at + line_length (drop l.at l.s))
