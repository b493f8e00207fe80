use mathlib.Core.Path.{◌≡◌}
use mathlib.Core.Option.{none}
use Prim.Native.Nat.{◌+◌, ◌*◌, ◌^◌, ◌≤◌, ◌<◌}
use lib.ListN.{drop}
use Rattle.format.specs.TextReader.{digits_from}
use Rattle.text_cells.proofs.hex2u16.Given as goal

abbrev pub invariant-loop-b : goal.invariant-loop-b
invariant-loop-b l = (l.bad ≤ l.b-index) × (l.v + 2 ≤ 2 * 16 ^ l.b-index)
    × (l.bad ≡ 0 → (l.v < 16 ^ l.b-index) × (digits_from 16 l.v (drop l.b-index l.s) ≡ digits_from 16 0 l.s))
    × (0 < l.bad → digits_from 16 0 l.s ≡ none)
