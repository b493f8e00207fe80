-- Assumes nothing.
use mathlib.Core.Path.{ap, ◌∙◌}
use Prim.Native.Nat.{ℕ}
use native.Mathlib.Nat.{add-zero}
use Rattle.format.specs.Binary.{number_at}
use Rattle.cursor.proofs.TakenLaws.{number_missing, number-there}
use Rattle.cursor.proofs.Cursor.take_u64.Goals as goal

pub returns-in_err-next : goal.returns-in_err-next
returns-in_err-next c = rw c.from_residual.ensures (number_missing 8 _ _ c.in_err-next.ensures)

pub returns : goal.returns
returns c =
    number-there 8 _ _ (c.u64_at.ensures ∙ ap (λ (i : ℕ). number_at i 8 c.args.s.now) (add-zero c.args.self.at)) c.in_ok-next.ensures
