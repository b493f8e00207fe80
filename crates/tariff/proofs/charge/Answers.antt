use mathlib.Core.Path.{ap}
use Prim.Native.Nat.{ℕ, ◌+◌, ◌*◌, ◌/◌}
use Rattle.tariff.specs.Tariff.{addends, fee_of}
use Rattle.tariff.proofs.charge.Goals as goal

pub returns : goal.returns
unfolding addends fee_of
returns c =
    let a = c.args in
    ap (λ (n : ℕ). record { number = 0; fee = n; base = 150; words = 4 * ((a.words + 255) / 256); labels = a.labels }) c.payable.ensures
