-- The words whose lines wrap, found in a walk along the records. Assumes nothing.
use mathlib.Core.Path.{◌≡◌, sym, ap, subst, ◌∙◌}
use mathlib.Core.List.{List, []}
use Prim.Native.Nat.{ℕ, ◌<◌}
use native.Mathlib.Omega.{arith}
use lib.Dec.{eqb}
use borrow.Author.Tests.{eqb-true, eqb-false}
use Rattle.format.specs.ObjectFile.{LineBlock}
use Rattle.format.proofs.ListLaws.{by_test}
use Rattle.text_lines_out.specs.Merge.{wrapped}
use Rattle.text_lines_out.specs.Walk.{line_blocks_in, wrapped_at, Wraps, WrapsOn}
use Rattle.text_lines_out.specs.declared.Wrapped.{Wrapped}
use Rattle.text_lines_out.proofs.TableLaws.{Steps, wrapped-on, wrapped-here, wraps-none, wrapped-nothing, none_here}

-- before the line blocks that are left: words found are all, and none found leaves them to the rest
pub record Finds (ws : List ℕ) (ls : List LineBlock) (r : Wrapped) : Type 0 where
  pub none : r.count ≡ 0 → wrapped ls ≡ wrapped (line_blocks_in ws)
  pub some : 0 < r.count → Wraps ws (wrapped (line_blocks_in ws)) r

pub finds_on : (ws : List ℕ) (at e : ℕ) (ls : List LineBlock) (g : Steps ws at e ls) (before r : Wrapped) → Finds ws ls before
    → WrapsOn ws at before r → Finds ws g.others r
finds_on ws at e ls g before r f w =
    by_test (eqb before.count 0)
    (λ t. let z = eqb-true before.count 0 t in
    let q = w.found z in
    record {
      none = λ n. sym (wrapped-on ws at e ls g (none_here (wrapped_at ws at) (sym q.count ∙ n))) ∙ f.none z;
      some = λ h. subst (λ (xs : List ℕ). Wraps ws xs r)
          (sym (wrapped-here ws at e ls g (subst (λ (n : ℕ). 0 < n) q.count h)) ∙ f.none z) q;
    })
    (λ t. let no = eqb-false before.count 0 t in
    let p : 0 < before.count = omega (arith, no) in
    let same = w.kept p in
    record {
      none = λ n. absurd (no (sym (ap (λ (x : Wrapped). x.count) same) ∙ n));
      some = λ h. subst (λ (x : Wrapped). Wraps ws (wrapped (line_blocks_in ws)) x) (sym same) (f.some p);
    })

pub finds_end : (ws : List ℕ) (r : Wrapped) → Finds ws [] r → Wraps ws (wrapped (line_blocks_in ws)) r
finds_end ws r f =
    by_test (eqb r.count 0)
    (λ t. let z = eqb-true r.count 0 t in wraps-none ws r (wrapped (line_blocks_in ws)) (sym (f.none z) ∙ wrapped-nothing) z)
    (λ t. let no = eqb-false r.count 0 t in f.some (omega (arith, no)))
