use mathlib.Core.Path.{◌≡◌}
use Prim.Native.Nat.{◌≤◌}
use lib.ListN.{drop}
use Rattle.format.specs.Source.{raw_line_span}
use Rattle.object.specs.Texts.{text_bytes}
use Rattle.source_info.specs.Passing.{span_from}
use Rattle.line_spans.proofs.raw_line.Given as goal

abbrev pub invariant-loop-i : goal.invariant-loop-i
invariant-loop-i l = (l.i ≤ l.n) × (l.start ≤ l.i) × (span_from l.start l.i l.left (drop l.i (text_bytes l.ws l.at l.n)) ≡ raw_line_span (text_bytes l.ws l.at l.n) l.line)
