use mathlib.Core.Path.{◌≡◌}
use mathlib.Core.List.{[]}
use Prim.Native.Nat.{◌-◌, ◌≤◌}
use lib.ListN.{length, drop, get_or}
use Rattle.format.specs.TextReader.{splitn}
use Rattle.text_cells.proofs.find_cell.Given as goal

abbrev pub invariant-loop-cell : goal.invariant-loop-cell
invariant-loop-cell l =
    (l.at ≤ length l.s) × (get_or (splitn (l.k - l._cell) (drop l.at l.s)) (l.i - l._cell) [] ≡ get_or (splitn l.k l.s) l.i [])
