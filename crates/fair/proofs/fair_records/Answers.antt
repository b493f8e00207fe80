use native.Mathlib.Omega.{arith}
use mathlib.Core.Path.{sym, ap, ◌∙◌}
use mathlib.Core.List.{List}
use Prim.Native.Nat.{ℕ}
use Rattle.object.proofs.Formed.{Formed, formed}
use Rattle.fair.specs.FairRecords.{fair_parts, step_of}
use Rattle.fair.proofs.FairLaws.{Going, going_start, going_end, going_unfair, going_on, head_stops, head-reads, head-texts}
use Rattle.fair.proofs.fair_records.Goals as goal
use Rattle.fair.proofs.fair_records.Goals.{In-loop-at}

abbrev ws : (c : In-loop-at) → List ℕ
ws c = c.args.ws.now

abbrev last : (c : In-loop-at) → ℕ
last c = c.args.last

abbrev at : (c : In-loop-at) → ℕ
at c = c.loop-at.at

abbrev least : (c : In-loop-at) → ℕ
least c = c.loop-at.least

abbrev some : (c : In-loop-at) → Formed (ws c)
some c = formed (ws c) c.requires.0

abbrev going : (c : In-loop-at) → Going (ws c) (at c) (last c) (least c) (fair_parts (last c) 0 (some c).object)
going c = c.loop-at.invariant (some c).object (some c).is

pub loop-at-init : goal.loop-at-init
loop-at-init c = λ h e. going_start _ _ h e

pub fair_record-requires : goal.fair_record-requires
fair_record-requires c =
    let v = fair_parts (last c) 0 (some c).object in
    let l = c.loop-at-test.true in (
      l,
      c.requires.1,
      head_stops (ws c) (last c) (at c) (least c) v l (going c),
      head-reads (ws c) (last c) (at c) (least c) v l (going c),
      head-texts (ws c) (last c) (at c) (least c) v l (going c),
    )

pub returns-in_default : goal.returns-in_default
returns-in_default c =
    λ h e.
    going_unfair (ws (goal.at.returns-in_default c).In-loop-at) (last (goal.at.returns-in_default c).In-loop-at) (at (goal.at.returns-in_default c).In-loop-at) (least (goal.at.returns-in_default c).In-loop-at) (fair_parts (last (goal.at.returns-in_default c).In-loop-at) 0 h) c.loop-at-test.true (c.loop-at.invariant h e)
    (sym c.fair_record.ensures ∙ ap step_of c.in_default.is)

pub loop-at-smaller : goal.loop-at-smaller
loop-at-smaller c =
    omega (arith, c.body_end-at.ensures, c.loop-at-test.true)

pub loop-at-preserved : goal.loop-at-preserved
loop-at-preserved c =
    λ h e.
    going_on (ws (goal.at.loop-at-preserved c).In-loop-at) (last (goal.at.loop-at-preserved c).In-loop-at) (at (goal.at.loop-at-preserved c).In-loop-at) (least (goal.at.loop-at-preserved c).In-loop-at) (fair_parts (last (goal.at.loop-at-preserved c).In-loop-at) 0 h) c.loop-at-test.true (c.loop-at.invariant h e) c.in-Some.next
    c.body_end-at.result (sym c.fair_record.ensures ∙ ap step_of c.in-Some.is) c.body_end-at.ensures

pub returns : goal.returns
returns c = λ h e. going_end _ _ _ _ _ c.loop-at-test.false (c.loop-at.invariant h e)
