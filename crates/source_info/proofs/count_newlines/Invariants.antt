use mathlib.Core.Path.{◌≡◌}
use Prim.Native.Nat.{◌+◌, ◌≤◌}
use lib.ListN.{drop}
use Rattle.format.specs.Source.{newlines}
use Rattle.object.specs.Texts.{text_bytes}
use Rattle.source_info.proofs.count_newlines.Given as goal

abbrev pub invariant-loop-i : goal.invariant-loop-i
invariant-loop-i l = (l.i ≤ l.n) × (l.count ≤ l.i) × (l.count + newlines (drop l.i (text_bytes l.ws l.at l.n)) ≡ newlines (text_bytes l.ws l.at l.n))
