use mathlib.Core.Path.{◌≡◌}
use Prim.Native.Nat.{◌+◌, ◌-◌, ◌/◌, ◌%◌, ◌≤◌, ◌<◌}
use Rattle.format.specs.Utf8.{characters}
use Rattle.object.specs.Texts.{text_bytes, bytes_from}
use Rattle.label_tables.proofs.characters.Given as goal

-- whole words are taken at their first bytes
abbrev pub invariant-loop-i : goal.invariant-loop-i
invariant-loop-i l = (l.i ≤ l.n) × (l.count ≤ l.i) × (l.count + characters (bytes_from l.ws l.at l.i (l.n - l.i)) ≡ characters (text_bytes l.ws l.at l.n)) × (l.i / 3 < l.whole → l.i % 3 ≡ 0)

abbrev pub decreases-loop-i : goal.decreases-loop-i
decreases-loop-i l = l.n - l.i
