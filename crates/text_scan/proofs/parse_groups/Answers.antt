-- Group by group. Assumes nothing.
use mathlib.Core.Path.{◌≡◌, refl, ap, ◌∙◌, subst}
use native.Mathlib.Omega.{arith}
use Rattle.std.specs.Prelude.{Ok, Err}
use Rattle.std.proofs.lemmas.Result.{err_from_is_err_and}
use Rattle.units.specs.declared.refusal.Refusal.{Refusal}
use Rattle.units.specs.Refusal.{number_of}
use Rattle.units.proofs.RefusalLaws.{number_of-above}
use Rattle.text_lines.specs.Groups.{NextHead, HeadAt, number_of_kind}
use Rattle.text_scan.specs.Walk.{walk_view}
use Rattle.text_scan.proofs.WalkLaws.{walked_begin, walked_no, walking_on, walking_refused, walking_loose, walking_done}
use Rattle.text_scan.proofs.parse_groups.Goals as goal
use Rattle.text_scan.proofs.parse_groups.Goals.{In-Some}

some : (r : Refusal) → number_of r ≡ 0 → ⊥
some r z = omega (arith, z, number_of-above r)

head : (c : In-Some) → HeadAt c.args.t.now c.loop-head.w.next (number_of_kind c.in-Some.head.kind) c.in-Some.head.next
head c = subst (λ o. NextHead c.args.t.now c.loop-head.w.next (Ok o)) c.in-Some.is c.in_ok-head.ensures

pub loop-head-init : goal.loop-head-init
loop-head-init c = walked_begin _ _ _ _ refl c.requires.1

pub loop-head-preserved : goal.loop-head-preserved
loop-head-preserved c =
    let l = head (goal.at.loop-head-preserved c).In-Some in
    let r = walk_view c.in-Some.head.next c.loop-head.w.words (Ok c.in_ok-w.w) in
    (refl, walking_on _ _ _ _ _ _ _ _ _ c.loop-head.invariant.1 _ _ l _ r c.in_ok-w.ensures c.parse_group.auto.seen refl)

pub returns-in_err-head : goal.returns-in_err-head
returns-in_err-head c =
    let w = err_from_is_err_and c.from_residual.result c.from_residual.ensures.1 in
    let e = c.in_err-head.ensures in
    rw (w.1 ∙ ap Err w.2, e.0) (walking_loose _ _ _ _ _ _ _ _ _ c.loop-head.invariant.1 e.1)

pub returns-in_err-w : goal.returns-in_err-w
returns-in_err-w c =
    let w = err_from_is_err_and c.from_residual-in_err-w.result c.from_residual-in_err-w.ensures.1 in
    let r = c.in_err-w.field-0.0 in
    let l = head (goal.at.returns-in_err-w c).In-Some in
    let v = walk_view c.in-Some.head.next c.loop-head.w.words (Err r) in
    rw (w.1 ∙ ap Err w.2)
    (walked_no c.args.t.now c.args.first v (walking_refused _ _ _ _ _ _ _ _ _ c.loop-head.invariant.1 _ _ l _ v c.in_err-w.ensures (some r)) (some r))

pub returns : goal.returns
returns c =
    let e = subst (λ o. NextHead c.args.t.now c.loop-head.w.next (Ok o)) c.in_default.is c.in_ok-head.ensures in
    walking_done _ _ _ _ _ _ _ _ _ c.loop-head.invariant.1 _ refl e
