use mathlib.Core.List.{map}
use Prim.Native.Nat.{◌+◌}
use lib.ListN.{length}
use Rattle.format.specs.Records.{label}
use Rattle.format.specs.Words.{record_words}
use Rattle.text_labels.specs.Labels.{labels_of, left_in}
use Rattle.text_labels.proofs.JoinLaws.{Joining}
use Rattle.text_labels.proofs.put_joined.Given as goal

abbrev pub invariant-loop-x : goal.invariant-loop-x
invariant-loop-x l = Joining l.t (map record_words (map label (labels_of l.t))) l.initial.out l.out l.initial.symbols l.symbols l.initial.starts l.starts l.at l.s l.d

abbrev pub decreases-loop-x : goal.decreases-loop-x
decreases-loop-x l = length (left_in 1 l.t l.symbols l.s) + length (left_in 3 l.t l.starts l.d)
