use native.Mathlib.Omega.{arith}
use borrow.Author.Tests.{not-true, not-false}
use mathlib.Core.Path.{sym}
use Rattle.object.specs.declared.Kind.TheVariants as kind
use Rattle.object.proofs.KindLaws.{number_is, number_not}
use mathlib.Core.List.{List}
use mathlib.Core.Option.{none}
use Prim.Native.Nat.{ℕ}
use Rattle.format.specs.Fair.{is_fair_by}
use Rattle.source_info.proofs.RecordLaws.{here}
use Rattle.fair.proofs.FairLaws.{blocks_only, only-start, only_end, only-block, only-other}
use Rattle.fair.proofs.has_blocks_only.Goals as goal
use Rattle.fair.proofs.has_blocks_only.Goals.{In-loop-at}

abbrev ws : (c : In-loop-at) → List ℕ
ws c = c.args.ws.now

abbrev at : (c : In-loop-at) → ℕ
at c = c.loop-at.at

pub loop-at-init : goal.loop-at-init
loop-at-init c = λ h e s. only-start _ h e s

pub returns-then-ne : goal.returns-then-ne
returns-then-ne c =
    λ h e s.
    only-other (ws (goal.at.returns-then-ne c).In-loop-at) (at (goal.at.returns-then-ne c).In-loop-at) (is_fair_by none h) (here (ws (goal.at.returns-then-ne c).In-loop-at) blocks_only (at (goal.at.returns-then-ne c).In-loop-at) (is_fair_by none h) c.loop-at-test.true (c.loop-at.invariant h e s))
    (number_not c.of.result kind.Block _ c.of.ensures (sym (not-true _ (sym c.if-ne.ensures))))

pub loop-at-smaller : goal.loop-at-smaller
loop-at-smaller c = omega (arith, c.body_end-at.ensures, c.loop-at-test.true)

pub loop-at-preserved : goal.loop-at-preserved
loop-at-preserved c =
    λ h e s.
    only-block (ws (goal.at.loop-at-preserved c).In-loop-at) (at (goal.at.loop-at-preserved c).In-loop-at) (is_fair_by none h) (here (ws (goal.at.loop-at-preserved c).In-loop-at) blocks_only (at (goal.at.loop-at-preserved c).In-loop-at) (is_fair_by none h) c.loop-at-test.true (c.loop-at.invariant h e s))
    (number_is c.of.result kind.Block _ c.of.ensures (sym (not-false _ (sym c.if-ne.ensures)))) c.body_end-at.result c.body_end-at.ensures

pub returns : goal.returns
returns c = λ h e s. only_end _ _ _ c.loop-at-test.false (c.loop-at.invariant h e s)
