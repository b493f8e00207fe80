use mathlib.Core.Path.{◌≡◌}
use lib.ListN.{drop}
use Rattle.format.specs.TextReader.{digits_from}
use Rattle.text_cells.proofs.decimal.Given as goal

abbrev pub invariant-loop-b : goal.invariant-loop-b
invariant-loop-b l = digits_from 10 l.v (drop l.b-index l.s) ≡ digits_from 10 0 l.s
