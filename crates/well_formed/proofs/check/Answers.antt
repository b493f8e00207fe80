use mathlib.Core.Path.{◌≡◌, refl, sym, ap, ◌∙◌}
use mathlib.Core.Bool.{Bool, true, false, not, ◌||◌, cond}
use mathlib.Core.List.{List}
use Prim.Native.Nat.{ℕ}
use Rattle.std.specs.Option.{is_some}
use Rattle.format.specs.Calls.{checked}
use Rattle.well_formed.specs.Steps.{past_in}
use Rattle.object.proofs.BodyLaws.{stops, head_at}
use Rattle.well_formed.proofs.WalkLaws.{answer, answer_body, walk_stop, walk-on, body_on, walk_end}
use Rattle.well_formed.proofs.check.Goals as goal
use Rattle.well_formed.proofs.check.Goals.{After-loop-at, else-is_some-via-then-is_some+else-not-seen, else-is_some-via-else-is_some}

abbrev whole : (c : After-loop-at) → List ℕ
whole c = c.args.object.now

ended : (c : After-loop-at) → (t : Bool) → (not (is_some c.loop-at.seen.lines) || c.loop-at.seen.sourced) ≡ t → cond t 0 1 ≡ checked (whole c)
ended c t e =
    answer (whole c) t c.loop-at.invariant.3 (sym c.loop-at.invariant.2
    ∙ walk_end (whole c) c.loop-at.at c.loop-at.seen c.loop-at-test.false ∙ e)

pub returns-then-goes_on : goal.returns-then-goes_on
returns-then-goes_on c = answer_body _ (sym c.goes_on.ensures ∙ c.if-goes_on.true)

pub loop-at-init : goal.loop-at-init
unfolding past_in
loop-at-init c =
    let e = stops _ _ (sym c.goes_on.ensures ∙ c.if-goes_on.false) in
    (e, tt, refl, e)

pub advance-requires : goal.advance-requires
advance-requires c =
    let inv = c.loop-at.invariant in
    (c.loop-at-test.true, head_at _ _ c.loop-at-test.true inv.0, inv.1)

pub returns-in_default : goal.returns-in_default
returns-in_default c =
    let ws = c.args.object.now in
    let loop = c.loop-at in
    answer ws false loop.invariant.3
    (sym loop.invariant.2 ∙ walk_stop ws loop.at loop.seen c.loop-at-test.true loop.invariant.0 c.in_default.ensures)

pub loop-at-preserved : goal.loop-at-preserved
loop-at-preserved c =
    let ws = c.args.object.now in
    let inv = c.loop-at.invariant in
    let t = c.in-Some in (
      body_on ws c.loop-at.at c.loop-at.seen c.loop-at-test.true inv.0 t.n t.s t.ensures,
      t.ensures.known,
      walk-on ws c.loop-at.at c.loop-at.seen c.loop-at-test.true inv.0 t.n t.s t.ensures ∙ inv.2,
      inv.3,
    )

pub returns-then-not-seen : goal.returns-then-not-seen
returns-then-not-seen c =
    ended (goal.at.returns-then-not-seen c).After-loop-at false
    (ap (λ b. not b || c.loop-at.seen.sourced) (sym c.if-is_some.ensures) ∙ c.if-not-seen.true)

pub returns : goal.returns
returns c =
    elim c.else-is_some.branch [
      | else-is_some-via-then-is_some+else-not-seen w ↦
          ended (goal.at.returns c).After-loop-at true
          (ap (λ b. not b || c.loop-at.seen.sourced) (sym w.if-is_some.ensures) ∙ w.if-not-seen.false)
      | else-is_some-via-else-is_some w ↦
          ended (goal.at.returns c).After-loop-at true (ap (λ b. not b || c.loop-at.seen.sourced) (sym w.if-is_some.ensures))
    ]
