use mathlib.Core.Path.{◌≡◌}
use Prim.Native.Nat.{◌+◌, ◌*◌, ◌≤◌}
use lib.ListN.{drop}
use Rattle.format.specs.Source.{newlines}
use Rattle.object.specs.Texts.{text_bytes}
use Rattle.source_info.proofs.newlines_in_words.Given as goal

abbrev pub invariant-loop-k : goal.invariant-loop-k
invariant-loop-k l = (l.count ≤ 3 * l.k) × (l.count + newlines (drop (3 * l.k) (text_bytes l.ws l.at l.n)) ≡ newlines (text_bytes l.ws l.at l.n))
