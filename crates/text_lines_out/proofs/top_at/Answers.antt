-- By the record's kind, and by how many lines it has. Assumes nothing.
use borrow.Author.Tests.{eqb-true, eqb-false}
use mathlib.Core.Path.{sym, ap, ◌∙◌}
use Prim.Native.Nat.{ℕ, ◌+◌, ◌-◌, ◌^◌}
use lib.Dec.{eqb}
use Rattle.format.proofs.ListLaws.{by_test}
use Rattle.object.specs.Access.{kind_at, line_block_at}
use Rattle.text_lines_out.specs.Merge.{smaller}
use Rattle.text_lines_out.proofs.LineLaws.{max-is}
use Rattle.text_lines_out.proofs.TableLaws.{top_other, top_none, top_some}
use Rattle.text_lines_out.proofs.top_at.Goals as goal

pub returns-then-lines-eq0 : goal.returns-then-lines-eq0
returns-then-lines-eq0 c =
    let a = c.args in
    by_test (eqb (kind_at a.ws.now a.at) 3)
    (λ t. let k = eqb-true (kind_at a.ws.now a.at) 3 t in
    top_none a.ws.now a.at a.top k (sym (c.lines_at-lines.ensures.block k).1 ∙ c.if-lines-eq0.true))
    (λ t. top_other a.ws.now a.at a.top (eqb-false (kind_at a.ws.now a.at) 3 t))

pub returns : goal.returns
returns c =
    let a = c.args in
    let t : ℕ = a.top in
    let count : ℕ = c.lines_at-lines.result.count in
    by_test (eqb (kind_at a.ws.now a.at) 3)
    (λ u. let k = eqb-true (kind_at a.ws.now a.at) 3 u in
    let b = c.lines_at-lines.ensures.block k in
    c.max.ensures ∙ max-is t c.last_line.result
    ∙ ap (λ (x : ℕ). t + (x - t))
    (c.last_line.ensures
    ∙ ap (λ (x : ℕ). smaller (x + (count - 1)) (2 ^ 64 - 1)) b.0
    ∙ ap (λ (x : ℕ). smaller ((line_block_at a.ws.now a.at).first + (x - 1)) (2 ^ 64 - 1)) b.1)
    ∙ top_some a.ws.now a.at t k (λ z. c.if-lines-eq0.false (b.1 ∙ z)))
    (λ u. absurd (c.if-lines-eq0.false (c.lines_at-lines.ensures.other (eqb-false (kind_at a.ws.now a.at) 3 u))))
