use mathlib.Core.Path.{◌≡◌}
use Prim.Native.Nat.{◌+◌}
use lib.ListN.{drop}
use Rattle.gather.specs.Kinds.{byte_of}
use Rattle.binary_words.proofs.LengthLaws.{total}
use Rattle.binary_words.proofs.places_length.Given as goal

abbrev pub invariant-loop-p : goal.invariant-loop-p
invariant-loop-p l = l.sum + total (byte_of l.kind) l.s (drop l.p-index l.places) ≡ total (byte_of l.kind) l.s l.places
