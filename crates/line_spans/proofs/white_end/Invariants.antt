use mathlib.Core.Path.{◌≡◌}
use mathlib.Core.Bool.{true}
use Prim.Native.Nat.{◌-◌, ◌≤◌}
use lib.ListN.{drop}
use Rattle.trim.proofs.TrimLaws.{blank_at}
use Rattle.object.specs.Texts.{text_bytes}
use Rattle.line_spans.proofs.white_end.Given as goal

abbrev pub invariant-loop-at : goal.invariant-loop-at
invariant-loop-at l = (l.start ≤ l.p) × (l.p ≤ l.end) × (blank_at (drop l.start (text_bytes l.ws l.at l.end)) (l.p - l.start) ≡ true)

abbrev pub decreases-loop-at : goal.decreases-loop-at
decreases-loop-at l = l.p
