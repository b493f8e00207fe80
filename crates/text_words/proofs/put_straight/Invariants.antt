use mathlib.Core.List.{map}
use Prim.Native.Nat.{◌-◌}
use lib.ListN.{length}
use Rattle.format.specs.Words.{record_words}
use Rattle.text_rows.specs.Rows.{number_of, rows_from}
use Rattle.text_words.proofs.PutLaws.{Puts}
use Rattle.text_words.proofs.put_straight.Given as goal

abbrev pub invariant-loop-row : goal.invariant-loop-row
invariant-loop-row l =
    Puts (map record_words (rows_from (number_of l.kind) l.t l.place)) (map record_words (rows_from (number_of l.kind) l.t l.from)) l.initial.out l.out l.at

abbrev pub decreases-loop-row : goal.decreases-loop-row
decreases-loop-row l = length l.t - l.place
