-- By whether any were found, and by the record's kind. Assumes nothing.
use borrow.Author.Tests.{eqb-true, eqb-false}
use native.Mathlib.Omega.{arith}
use mathlib.Core.Path.{ap, ap₂, ◌∙◌}
use Prim.Native.Nat.{ℕ, ◌+◌, ◌-◌, ◌^◌}
use lib.Dec.{eqb}
use Rattle.format.proofs.ListLaws.{by_test}
use Rattle.object.specs.Access.{kind_at}
use Rattle.text_lines_out.specs.Merge.{smaller}
use Rattle.text_lines_out.proofs.TableLaws.{wraps-other, wraps-block}
use Rattle.text_lines_out.proofs.wrapped_on.Goals as goal

pub returns : goal.returns
returns c =
    let a = c.args in
    let ws = a.ws.now in
    let n : ℕ = c.straight_count-kept.result in
    record {
      kept = λ h. let t = c.if-before-gt0.false in absurd (omega (arith, t, h));
      found = λ z. by_test (eqb (kind_at ws a.at) 3)
          (λ t. let q = eqb-true (kind_at ws a.at) 3 t in
          let b = c.lines_at-lines.ensures.block q in
          wraps-block ws a.at q n _ (c.straight_count-kept.ensures ∙ ap₂ (λ (x y : ℕ). smaller x (2 ^ 64 - y)) b.1 b.0)
          (ap (λ (x : ℕ). x + n) b.2) (ap (λ (x : ℕ). x - n) b.1))
          (λ t. let o = c.lines_at-lines.ensures.other (eqb-false (kind_at ws a.at) 3 t) in
          wraps-other ws a.at _ (eqb-false (kind_at ws a.at) 3 t) (omega (arith, o)));
    }
