-- By what is counted below the number at hand. Assumes nothing.
use native.Mathlib.Omega.{arith}
use mathlib.Core.Path.{refl, sym, ap, ◌∙◌}
use Prim.Native.Nat.{ℕ, ◌+◌}
use Rattle.format.specs.Basics.{how_many}
use Rattle.format.specs.Utf8.{is_white_space}
use Rattle.format.proofs.WhiteSpaceLaws.{how_many-yes, how_many_no, how_many_most}
use Rattle.white_space_count.proofs.count_white_space.Goals as goal
use Rattle.white_space_count.proofs.count_white_space.Goals.{else-is_white_space, then-is_white_space}

pub loop-c-init : goal.loop-c-init
unfolding how_many
loop-c-init c = (omega arith, refl)

pub overflow_add-n : goal.overflow_add-n
overflow_add-n c = let l = c.loop-c in omega (arith, l.invariant.1, how_many_most is_white_space l.c)

pub loop-c-preserved : goal.loop-c-preserved
loop-c-preserved c =
    let l = c.loop-c in
    let said = c.is_white_space.ensures in (
      omega arith,
      elim c.if-is_white_space.branch [ then-is_white_space w ↦ w.n-is ∙ ap (λ (k : ℕ). k + 1) l.invariant.1 ∙ sym (how_many-yes is_white_space l.c (sym said ∙ w.if-is_white_space.true)) | else-is_white_space w ↦ w.n-is ∙ l.invariant.1 ∙ sym (how_many_no is_white_space l.c (sym said ∙ w.if-is_white_space.false)) ],
    )
