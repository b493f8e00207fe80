use native.Mathlib.Omega.{arith}
use mathlib.Core.Bool.{true, false}
use mathlib.Core.Path.{◌≡◌, refl, ap, ◌∙◌}
use Prim.Native.Nat.{ℕ, ◌+◌, ◌^◌, ◌<◌}
use Rattle.text_words.proofs.WordLaws.{thirds}
use Rattle.text_read.specs.Parts.{debug_words}
use Rattle.text_read.proofs.PartLaws.{debug_none, debug_some}
use Rattle.text_read.proofs.fixed_words.Goals as goal
use Rattle.text_read.proofs.fixed_words.Goals.{After-div_ceil}

few : (c : After-div_ceil) → c.args.words + debug_words true c.in-Some.rows.lines < 2 ^ 64
few c = rw c.in-Some.is at c.requires.0

debug : (c : After-div_ceil) → c.in-Some.rows.lines.words + (1 + c.div_ceil.result) ≡ debug_words true c.in-Some.rows.lines
debug c =
    let l = c.in-Some.rows.lines in
    ap (λ (n : ℕ). l.words + (1 + n)) (c.div_ceil.ensures ∙ thirds l.len) ∙ debug_some true l refl

pub returns-in-None : goal.returns-in-None
returns-in-None c = rw c.in-None.is (debug_none false _ _ refl)

pub overflow_add-result-in-Some : goal.overflow_add-result-in-Some
overflow_add-result-in-Some c =
    let d = (goal.at.overflow_add-result-in-Some c).After-div_ceil in omega (arith, debug d, few d)

pub overflow_add-result-in-Some-2 : goal.overflow_add-result-in-Some-2
overflow_add-result-in-Some-2 c =
    let d = (goal.at.overflow_add-result-in-Some-2 c).After-div_ceil in omega (arith, debug d, few d)

pub returns-in-Some : goal.returns-in-Some
returns-in-Some c =
    rw c.in-Some.is (ap (λ (k : ℕ). c.args.words + k) (debug (goal.at.returns-in-Some c).After-div_ceil))
