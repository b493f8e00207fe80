use Prim.Native.Nat.{◌-◌}
use lib.ListN.{length}
use Rattle.text_rows.specs.Rows.{number_of}
use Rattle.text_rows.proofs.StepLaws.{Passing}
use Rattle.text_rows.proofs.next_table.Given as goal

abbrev pub invariant-loop-head : goal.invariant-loop-head
invariant-loop-head l = Passing (number_of l.kind) l.t l.from l.at

abbrev pub decreases-loop-head : goal.decreases-loop-head
decreases-loop-head l = length l.t - l.at
