-- The position of a byte: what the call hands back, and what its parts say of a text. Assumes nothing.
use Rattle.std.specs.Prelude.{◌≡◌, ◌⊎◌, List, ℕ, ◌≤◌, drop, Result, Ok, Err}
use Rattle.format.specs.Source.{Position}
use Rattle.format.specs.Calls.{PositionAnswer}
use Rattle.source_info.specs.Passing.{pos_from}
use Rattle.units.specs.Refusal.{number_of}
use Rattle.units.specs.declared.refusal.Refusal.{Refusal}
use Rattle.positions.specs.declared.PosPair.{PosPair}
use Rattle.positions.specs.declared.Passed.{Passed}
use Rattle.positions.specs.declared.Pair.{Pair}

-- document 01's number and values of what is handed back: the values are 0 on a refusal
abbrev pub pair_answer : Result PosPair Refusal → PositionAnswer
pair_answer (Ok p) = record { number = 0; line = p.line.0; column = p.column }
pair_answer (Err r) = record { number = number_of r; line = 0; column = 0 }

abbrev pub pair_in : Pair → Position
pair_in p = record { line = p.line; column = p.column }

-- passed up to an index or the end, and every index from there on has the position that it had
pub record Passes (s : List ℕ) (n index : ℕ) (p r : Passed) : Type 0 where
  pub within : r.i ≤ n
  pub lines : r.line ≤ r.i
  pub starts : r.start ≤ r.i
  pub reached : (n ≤ r.i) ⊎ (index ≤ r.i)
  pub back : p.i ≤ index → r.i ≤ index
  pub same : (j : ℕ) → index ≤ j → pos_from j r.line r.start r.i (drop r.i s)
      ≡ pos_from j p.line p.start p.i (drop p.i s)
