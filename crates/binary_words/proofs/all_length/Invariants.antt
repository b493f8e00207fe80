use mathlib.Core.Path.{◌≡◌}
use Prim.Native.Nat.{◌+◌, ◌-◌}
use lib.ListN.{length}
use Rattle.gather.specs.Places.{places_from, places_of}
use Rattle.binary_words.proofs.LengthLaws.{total}
use Rattle.gather.specs.Kinds.{byte_of}
use Rattle.binary_words.proofs.all_length.Given as goal

abbrev pub invariant-loop-p : goal.invariant-loop-p
invariant-loop-p l = l.all + total (byte_of l.kind) l.s (places_from (byte_of l.kind) l.s l.at) ≡ total (byte_of l.kind) l.s (places_of (byte_of l.kind) l.s)

abbrev pub decreases-loop-p : goal.decreases-loop-p
decreases-loop-p l = length l.s - l.at
