use mathlib.Core.Path.{◌≡◌}
use Prim.Native.Nat.{◌-◌, ◌≤◌}
use lib.ListN.{drop}
use Rattle.format.specs.Utf8.{trim_from}
use Rattle.object.specs.Texts.{text_bytes}
use Rattle.line_spans.proofs.white_start.Given as goal

abbrev pub invariant-loop-at : goal.invariant-loop-at
invariant-loop-at l = (l.start ≤ l.p) × (l.p ≤ l.end) × (trim_from 0 (drop l.p (text_bytes l.ws l.at l.end)) ≡ trim_from 0 (drop l.start (text_bytes l.ws l.at l.end)))

abbrev pub decreases-loop-at : goal.decreases-loop-at
decreases-loop-at l = l.end - l.p
