use mathlib.Core.Path.{◌≡◌}
use Prim.Native.Nat.{ℕ, ◌≤◌}
use lib.ListN.{drop}
use Rattle.object.specs.Texts.{text_bytes}
use Rattle.source_info.specs.Passing.{pos_from}
use Rattle.positions.proofs.Passed.advance.Given as goal

abbrev pub invariant-loop-i : goal.invariant-loop-i
invariant-loop-i l = (l.i ≤ l.n) × (l.line ≤ l.i) × (l.start ≤ l.i) × (l.initial.i ≤ l.index → l.i ≤ l.index)
    × ((j : ℕ) → l.index ≤ j → pos_from j l.line l.start l.i (drop l.i (text_bytes l.ws l.at l.n)) ≡ pos_from j l.initial.line l.initial.start l.initial.i (drop l.initial.i (text_bytes l.ws l.at l.n)))
