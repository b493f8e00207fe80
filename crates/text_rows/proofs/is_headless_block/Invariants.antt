use mathlib.Core.Path.{◌≡◌}
use Prim.Native.Nat.{◌+◌, ◌≤◌}
use Rattle.text_rows.specs.Steps.{Headless}
use Rattle.text_rows.proofs.is_headless_block.Given as goal

abbrev pub invariant-loop-k : goal.invariant-loop-k
invariant-loop-k l = (l.heads ≤ l.k) × (l.heads ≡ 0 → Headless l.t l.at (l.at + l.k))
