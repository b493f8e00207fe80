use Rattle.std.proofs.Common.{◌≡◌, ℕ, ◌≤◌, List, ◌++◌, length, sym, refl, ap, ◌∙◌, subst}
use Rattle.trim.specs.Span.{part}
use Rattle.text_source.specs.Stream.{source_from, at_most}
use Rattle.text_source.proofs.StreamLaws.{byte_none, byte_later, part_most, at_most_lem, most-min}
use Rattle.text_source.proofs.find_piece.Goals as goal

-- what the loop starts from is what is left from the cursor
start : (t : List ℕ) (at end next e : ℕ) → e ≡ at_most end (length t) → part at end t ++ source_from t next ≡ part at e t ++ source_from t next
start t at end next e q = ap (λ (p : List ℕ). p ++ source_from t next) (sym (part_most t at end) ∙ ap (λ (x : ℕ). part at x t) (sym q))

pub loop-end-init : goal.loop-end-init
loop-end-init c = (subst (λ (x : ℕ). x ≤ length c.args.t.now) (sym (c.min-end.ensures ∙ most-min c.args.to (length c.args.t.now))) (at_most_lem c.args.to (length c.args.t.now)), refl)

pub returns : goal.returns
returns c =
    let a = c.args in
    let l = c.loop-end in
    (start a.t.now a.from a.to a.line _ (c.min-end.ensures ∙ most-min c.args.to (length c.args.t.now)) ∙ sym l.invariant.1, c.loop-end-test.false, l.invariant.0)

pub returns-in_err-row : goal.returns-in_err-row
returns-in_err-row c =
    let a = c.args in
    rw c.from_residual.ensures
    (start a.t.now a.from a.to a.line _ (c.min-end.ensures ∙ most-min c.args.to (length c.args.t.now)) ∙ byte_none _ _ _ _ _ c.loop-end.invariant.1 c.loop-end-test.true c.in_err-row.ensures)

pub loop-end-preserved : goal.loop-end-preserved
loop-end-preserved c =
    let r = byte_later _ _ _ _ _ c.loop-end.invariant.1 c.loop-end-test.true _ _ _ _ _ c.in_ok-row.ensures c.source_cell-cell.ensures in (r.1, r.2)
