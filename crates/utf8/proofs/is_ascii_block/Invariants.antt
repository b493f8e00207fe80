use Prim.Native.Nat.{◌+◌}
use Rattle.utf8.proofs.PlaceLaws.{AtMost}
use Rattle.utf8.proofs.is_ascii_block.Given as goal

abbrev pub invariant-loop-k : goal.invariant-loop-k
invariant-loop-k l = AtMost l.most l.s l.at (l.at + l.k)
