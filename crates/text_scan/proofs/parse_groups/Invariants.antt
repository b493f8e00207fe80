use Prim.Native.Nat.{◌-◌}
use lib.ListN.{length}
use Rattle.std.specs.Prelude.{Ok}
use Rattle.text_scan.specs.Walk.{walk_view}
use Rattle.text_scan.proofs.WalkLaws.{WalkedTo}
use Rattle.text_scan.proofs.parse_groups.Given as goal

abbrev pub invariant-loop-head : goal.invariant-loop-head
invariant-loop-head l = WalkedTo l.t l.first l.initial.seen l.seen (walk_view 0 0 (Ok l.w))

abbrev pub decreases-loop-head : goal.decreases-loop-head
decreases-loop-head l = length l.t - l.w.next
