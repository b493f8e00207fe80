-- No refusal of an object has number 0. Assumes nothing.
use mathlib.Core.Path.{◌≡◌}
use mathlib.Core.Bool.{cond}
use mathlib.Core.List.{List}
use Prim.Native.Nat.{ℕ}
use native.Mathlib.Omega.{arith}
use Rattle.format.specs.Basics.{Outcome, refused, given, is_given}
use Rattle.format.specs.ObjectFile.{ObjectFile}
use Rattle.format.specs.Words.{object_of}
use Rattle.format.specs.Calls.{refusal_of, checked}
use Rattle.format.proofs.Numbered.{Numbered}
use Rattle.object.proofs.RefusalLaws.{refusal_of_lem}

pub object_numbered : (ws : List ℕ) → Numbered (object_of ws)
unfolding checked
object_numbered ws = go (object_of ws) (refusal_of_lem ws)
  where
    go : (o : Outcome ObjectFile) → refusal_of o ≡ cond (is_given o) 0 1 → Numbered o
    go (refused n) e = omega arith
    go (given h) e = tt
