-- Cases on a test. Assumes nothing.
use mathlib.Core.Path.{◌≡◌, refl}
use mathlib.Core.Bool.{Bool, true, false, true≢false}
use Rattle.format.specs.Basics.{Outcome, refused, given}
use Rattle.object.specs.Bodies.{allows}

pub clash : {P : Type 0} {t : Bool} → t ≡ true → t ≡ false → P
clash p q = absurd (true≢false (cc))

pub none_pass : {A : Type 0} (o : Outcome A) → allows o (λ a. false) ≡ false
none_pass (refused n) = refl
none_pass (given a) = refl
